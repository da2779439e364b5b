-- In reading order.
pub mod Marks
pub mod State
pub mod Refused
pub mod Editing
pub mod Loading
pub mod Passing
pub mod Reading
pub mod Formed
pub mod Saving
