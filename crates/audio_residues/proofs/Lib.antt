pub mod SubmapLaws
pub mod RequestLaws
pub mod WholeLaws
