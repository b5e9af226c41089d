pub mod Judged
pub mod Example
