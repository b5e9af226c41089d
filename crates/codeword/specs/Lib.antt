pub mod Codeword
pub mod Inner
