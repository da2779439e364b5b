-- In reading order.
pub mod Tables
pub mod Figures
