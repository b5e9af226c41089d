pub mod Step
pub mod Examples
pub mod Inner
