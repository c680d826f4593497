pub mod Ranges
pub mod Columns
pub mod Drawn
pub mod Stays
pub mod Legal
pub mod Cut
pub mod Follows
