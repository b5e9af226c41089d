pub mod Requests
pub mod Listed
pub mod Vectors
pub mod Inner
