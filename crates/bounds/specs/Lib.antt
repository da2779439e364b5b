-- What a reader must believe, in reading order.
pub mod Sums
pub mod Demand
pub mod Rules
pub mod Bounds
pub mod Lengths
pub mod Rounds
pub mod Solutions
pub mod Endings
pub mod Settling
-- What the private functions promise each other; nothing above rests on it.
pub mod Loads
pub mod Gathering
pub mod Questions
-- The laws of the two tests, with their proofs: the language needs them here, since the proof of an implementation's law
-- cites no lemma of its own crate but those of specs/. No definition is among them but `RuleLaws`, which says what a rule
-- has to keep.
pub mod Adding
pub mod Agreeing
pub mod Fewer
pub mod Rises
pub mod Lawful
pub mod Tested
