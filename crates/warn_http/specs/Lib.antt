pub mod Numbers
pub mod Heads
pub mod Routes
pub mod Wants
pub mod Answers
pub mod Outcomes
pub mod Calls
pub mod Readings
