pub mod Places
pub mod ClassLaws
pub mod FloorLaws
