pub mod Written
pub mod Slotted
pub mod Hexed
pub mod Checked
pub mod Backed
pub mod Filed
