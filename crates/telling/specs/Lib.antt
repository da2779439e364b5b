-- In reading order.
pub mod Counts
pub mod Boards
pub mod Tasks
pub mod Times
pub mod Listing
pub mod Hex
pub mod Reading
pub mod Files
