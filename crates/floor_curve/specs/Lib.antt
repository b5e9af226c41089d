pub mod Curve
pub mod inner
