pub mod Grammar
pub mod Faults
pub mod Written
pub mod Codes
pub mod Reading
pub mod Rising
