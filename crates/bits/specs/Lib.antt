pub mod Field
pub mod Signed
pub mod Ilog
pub mod Reasons
pub mod Vectors
pub mod Inner
