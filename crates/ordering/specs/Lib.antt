-- What a reader must believe, in reading order.
pub mod Orders
pub mod Present
pub mod Search
pub mod Judging
pub mod Writing
-- How the code's answers are read as the answers of the definitions.
pub mod Told
