pub mod Desks
pub mod Refusals
