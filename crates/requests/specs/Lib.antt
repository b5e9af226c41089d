pub mod Requests
pub mod Run
pub mod Values
pub mod Refusing
pub mod Claims
pub mod Vectors
pub mod Inner
