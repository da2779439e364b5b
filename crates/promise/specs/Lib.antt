-- In reading order.
pub mod Calls
pub mod History
pub mod Promise
