pub mod Onward
pub mod JudgedLaws
pub mod ExampleLaws
pub mod ReachedLaws
