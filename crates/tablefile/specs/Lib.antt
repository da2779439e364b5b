-- In reading order.
pub mod Spelling
pub mod Parts
pub mod Check
pub mod Numbers
pub mod Layout
pub mod Refusing
pub mod Reading
pub mod Writing
