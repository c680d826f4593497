pub mod Passes
pub mod Story
pub mod Turns
