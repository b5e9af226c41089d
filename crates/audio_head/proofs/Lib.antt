pub mod RunLaws
pub mod HeadLaws
pub mod PointLaws
pub mod KnownLaws
