pub mod Bits
pub mod Windows
pub mod Lone
pub mod Matching
pub mod LoopLaws
pub mod Laws
