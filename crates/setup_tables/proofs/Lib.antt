pub mod Counts
pub mod Theorem
pub mod Laws
