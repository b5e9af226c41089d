pub mod CheckedLaws
pub mod CallLaws
