pub mod Words
pub mod Texts
pub mod Readings
pub mod Report
pub mod Runs
pub mod Pieces
