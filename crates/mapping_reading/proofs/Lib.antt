pub mod Fits
pub mod Fillings
pub mod MappingLaws
