pub mod FinalY
pub mod Inner
