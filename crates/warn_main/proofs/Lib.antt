mod Lawful
mod Opening
mod Portless
mod Promising
mod Served
pub mod Sure
