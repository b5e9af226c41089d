pub mod CountLaws
pub mod SizeLaws
pub mod RowLaws
pub mod Laws
