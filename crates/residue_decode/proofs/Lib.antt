pub mod LastLaws
pub mod FirstLaws
pub mod LaterLaws
pub mod WholeLaws
