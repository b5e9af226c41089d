pub mod Content
pub mod Carried
pub mod Rules
pub mod Reading
pub mod Layout
pub mod Inner
