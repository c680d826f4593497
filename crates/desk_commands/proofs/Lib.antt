mod Mapping
pub mod Scripting
pub mod Keeping
mod Judging
mod Upgrading
mod Later
mod Readings
mod Cutting
mod Exporting
mod Making
mod Staying
mod Moving
