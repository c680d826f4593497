pub mod Floats
pub mod Lines
pub mod NoneRead
pub mod Zones
