pub mod SizeLaws
pub mod SoundLaws
pub mod Numbers
