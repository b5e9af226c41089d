pub mod ClearLaws
pub mod SettleLaws
