pub mod Answered
pub mod Verdict
pub mod RuleLaws
pub mod HeadAccepted
pub mod LengthsAccepted
pub mod LookupAccepted
pub mod Accepted
pub mod BooksStored
