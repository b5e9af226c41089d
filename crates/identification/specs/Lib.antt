pub mod Identification
pub mod Sound
pub mod Vectors
pub mod Inner
