pub mod PointLaws
pub mod DrawLaws
pub mod CurveLaws
pub mod LinkedLaws
