pub mod Line
pub mod Search
pub mod Neighbours
pub mod Inner
