pub mod Next
pub mod Reading
pub mod Watching
