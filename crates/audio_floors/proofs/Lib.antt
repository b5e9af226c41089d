pub mod ChannelLaws
pub mod FloorsLaws
pub mod Agreement
