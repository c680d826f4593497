pub mod Numbers
pub mod Fronts
pub mod Paging
pub mod ToldFindings
pub mod Taking
pub mod Reading
pub mod Ending
pub mod FrameCounts
