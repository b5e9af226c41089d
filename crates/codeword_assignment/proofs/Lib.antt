pub mod Laws
pub mod Computed
pub mod Assigning
pub mod Comparing
pub mod Lone
