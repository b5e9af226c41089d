-- Statements that functions of other crates and their proofs share. No public contract rests on how they are worded.
pub mod Rows
