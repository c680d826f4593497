pub mod Rising
pub mod Kept
pub mod Codes
