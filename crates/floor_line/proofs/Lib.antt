pub mod Integers
pub mod LineLaws
pub mod RenderLaws
pub mod Searching
pub mod Choosing
pub mod OrderLaws
