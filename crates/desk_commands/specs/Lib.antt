pub mod Lines
pub mod Opening
pub mod Scripts
pub mod Held
pub mod Commands
pub mod Unmade
