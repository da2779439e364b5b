-- In reading order.
pub mod Refusals
pub mod Boards
pub mod Limits
pub mod Rows
pub mod Tasks
pub mod Sets
pub mod Ranks
pub mod Firsts
pub mod Tests
