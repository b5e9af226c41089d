pub mod RecogniseLaws
pub mod RecogniseTheorem
