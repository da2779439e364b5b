-- In reading order.
pub mod Told
pub mod Figures
