pub mod Loops
pub mod Collected
pub mod ListLaws
pub mod NumberLaws
pub mod Accepted
pub mod Beside
