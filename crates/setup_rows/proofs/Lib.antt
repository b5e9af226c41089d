pub mod StoredLaws
pub mod BookLaws
pub mod ResidueLaws
pub mod RestLaws
pub mod RowsLaws
