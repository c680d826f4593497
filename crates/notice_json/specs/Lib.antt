pub mod Commands
pub mod Form
pub mod Formed
pub mod Keys
pub mod Refusals
pub mod Values
