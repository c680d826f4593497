mod Seated
mod Searched
pub mod Coded
