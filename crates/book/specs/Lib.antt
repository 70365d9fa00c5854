pub mod Books
pub mod BookLaw
