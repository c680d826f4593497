pub mod Places
pub mod Worlds
pub mod Runs
pub mod Offices
pub mod Promise
pub mod Sure
pub mod Access
pub mod Programs
