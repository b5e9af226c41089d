pub mod BlankLaws
pub mod SettledLaws
