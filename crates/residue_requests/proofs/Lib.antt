pub mod UnplacedLaws
pub mod KindLaws
pub mod AgainLaws
pub mod PassLaws
pub mod FirstPassLaws
pub mod ListedLaws
