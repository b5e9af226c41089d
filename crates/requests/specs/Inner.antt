-- Statements that proofs of several crates share. No public contract rests on how they are worded.
pub mod Parts
