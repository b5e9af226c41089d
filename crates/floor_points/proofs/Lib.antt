pub mod Unwrapping
pub mod Filling
pub mod Stepping
pub mod FitLaws
