pub mod HeadLaws
pub mod ReadyLaws
pub mod ContentLaws
pub mod PacketLaws
pub mod AcceptedLaws
pub mod JudgeLaws
pub mod JudgeBodyLaws
pub mod JudgeWholeLaws
