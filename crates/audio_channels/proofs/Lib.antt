pub mod LiveLaws
pub mod ChannelLaws
pub mod ExtentLaws
