-- Statements that functions of several crates and their proofs share. No public contract rests on how they are worded.
pub mod Readable
pub mod PassRuns
pub mod Decoders
