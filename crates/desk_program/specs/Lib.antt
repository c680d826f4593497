pub mod Words
pub mod Training
pub mod Worlds
pub mod Commands
pub mod Runs
