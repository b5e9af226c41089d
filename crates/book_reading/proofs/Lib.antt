pub mod BookLaws
pub mod BooksLaws
