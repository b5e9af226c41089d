-- Statements that functions of this crate, the audio call and their proofs share. No public contract rests on how they are worded.
pub mod Floors
