pub mod BodyWords
pub mod BodyLaws
pub mod BodyReadLaws
