pub mod Forms
pub mod Keys
pub mod Reading
pub mod AreSettings
pub mod Looking
