pub mod JudgedLaws
pub mod DecodesLaws
pub mod CallLaws
