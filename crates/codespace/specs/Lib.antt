pub mod Ledger
pub mod Claims
pub mod Answers
pub mod Entering
pub mod Inner
