pub mod Solutions
pub mod Smaller
