pub mod TypeLaws
pub mod RowLaws
