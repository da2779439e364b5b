-- In reading order.
pub mod Texts
pub mod Lines
pub mod Report
pub mod Program
