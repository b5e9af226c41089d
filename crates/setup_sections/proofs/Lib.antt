pub mod PartLaws
pub mod SectionLaws
