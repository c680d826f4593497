pub mod Answers
pub mod Readings
pub mod Talks
pub mod Rounding
pub mod Rounds
pub mod Telling
pub mod Words
pub mod Runs
