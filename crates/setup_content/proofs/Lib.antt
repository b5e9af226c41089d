pub mod RestLaws
pub mod ContentLaws
