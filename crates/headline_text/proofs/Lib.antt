pub mod NameLaws
pub mod Pieces
pub mod Saying
pub mod Words
pub mod WrapLaws
mod WholeWords
