pub mod Lengths
pub mod Chain
pub mod Refine
pub mod Whole
pub mod Claimed
pub mod Steps
pub mod Places
pub mod Numbers
