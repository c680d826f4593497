pub mod ClockLaws
pub mod Clocks
pub mod Crash
pub mod DiskMemory
pub mod DiskMemoryLaws
pub mod DiskTold
pub mod Faults
pub mod File
