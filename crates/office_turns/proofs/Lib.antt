pub mod Listing
pub mod Joining
pub mod Answering
