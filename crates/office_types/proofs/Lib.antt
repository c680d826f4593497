pub mod DeskNames
pub mod Equality
