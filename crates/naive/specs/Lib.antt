pub mod Sets
pub mod Draws
pub mod Tallies
pub mod Answers
pub mod Rounds
