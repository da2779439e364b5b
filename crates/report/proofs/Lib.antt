pub mod Added
pub mod Ordered
