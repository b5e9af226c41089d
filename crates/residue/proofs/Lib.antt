pub mod HeadSound
pub mod PlanSound
pub mod RowsLaws
pub mod FitsLaws
pub mod Laws
pub mod DecodeLaws
