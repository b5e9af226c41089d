-- Statements that functions of this crate and their proofs share. No public contract rests on how they are worded.
pub mod Ready
pub mod Reasons
