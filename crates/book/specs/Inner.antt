-- Statements that proofs of several crates share. No public contract rests on how they are worded.
pub mod LengthsParts
pub mod LookupParts
pub mod Parts
pub mod Layout
pub mod Valid
pub mod BookBuffers
pub mod Answers
