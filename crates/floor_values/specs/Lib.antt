pub mod Claims
pub mod Values
pub mod Vectors
pub mod Inner
