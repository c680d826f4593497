pub mod Tying
pub mod Happenings
pub mod Since
pub mod Noting
pub mod Submitted
pub mod Turns
