pub mod Words
pub mod Growing
pub mod Serving
