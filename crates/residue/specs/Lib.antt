pub mod Content
pub mod Reading
pub mod Layout
pub mod Carried
pub mod Rules
pub mod Vectors
pub mod Inner
