pub mod Keeping
pub mod Telling
pub mod Answering
pub mod Mapping
pub mod Piecewise
mod Feeding
mod Running
pub mod Finishing
mod Parts
pub mod Digits
pub mod Shapes
