pub mod Agreeing
pub mod Counting
pub mod Keeping
pub mod OneAnswer
pub mod Running
pub mod Zones
