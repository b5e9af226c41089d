pub mod ClassLaws
pub mod ChosenLaws
pub mod PartitionLaws
