pub mod Progress
pub mod Session
pub mod Taken
