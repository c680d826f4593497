mod Kept
pub mod Scheduled
