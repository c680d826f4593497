pub mod LinkLaws
pub mod LinkMemory
pub mod Links
pub mod Listening
