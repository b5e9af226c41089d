pub mod Laws
pub mod Single
pub mod Cuts
pub mod Values
pub mod Refusing
