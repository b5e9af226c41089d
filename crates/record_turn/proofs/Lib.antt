pub mod FeedingLaws
pub mod TurnLaws
