pub mod Bodies
pub mod Conditions
pub mod Lengths
pub mod Text
