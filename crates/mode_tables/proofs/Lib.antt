pub mod Laws
pub mod RecogniseLaws
