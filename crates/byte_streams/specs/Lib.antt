pub mod Flows
pub mod StreamMemory
