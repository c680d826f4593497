pub mod Headlines
pub mod Lines
pub mod NameLines
pub mod Periods
pub mod Wrapping
