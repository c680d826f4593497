pub mod Json
pub mod Written
