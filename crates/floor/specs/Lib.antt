pub mod Content
pub mod Carried
pub mod Rules
pub mod ClassReading
pub mod XListReading
pub mod Reading
pub mod Layout
pub mod Inner
