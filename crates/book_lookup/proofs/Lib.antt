pub mod RootLaws
pub mod LookupLaws
