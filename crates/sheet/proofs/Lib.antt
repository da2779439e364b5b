pub mod Taken
pub mod Filed
pub mod Entering
pub mod Tasked
pub mod Opened
pub mod Refilled
pub mod Saved
