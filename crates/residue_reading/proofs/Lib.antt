pub mod HeadLaws
pub mod SlotLaws
pub mod CascadeLaws
pub mod PlanLaws
pub mod WritingLaws
pub mod ReadLaws
pub mod ResidueLaws
