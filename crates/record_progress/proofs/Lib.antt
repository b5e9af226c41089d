pub mod ReportLaws
pub mod SessionLaws
pub mod FrontLaws
pub mod TakingLaws
pub mod LastLaws
