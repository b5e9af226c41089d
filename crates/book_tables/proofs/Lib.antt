pub mod Small
pub mod TestLaws
pub mod Written
pub mod BooksLeftLaws
pub mod RecogniseLaws
