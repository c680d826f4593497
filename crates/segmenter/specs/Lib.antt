pub mod Expiry
pub mod Groups
pub mod Laws
pub mod Said
pub mod Segments
pub mod Steps
pub mod OneGroup
