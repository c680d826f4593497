pub mod Draws
pub mod Requests
pub mod Office
pub mod Tellings
pub mod Runs
pub mod Keeping
pub mod Words
