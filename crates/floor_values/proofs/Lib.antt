pub mod FirstLaws
pub mod PartitionLaws
pub mod FloorLaws
pub mod Cuts
pub mod Refused
pub mod Known
pub mod Encodes
pub mod Front
