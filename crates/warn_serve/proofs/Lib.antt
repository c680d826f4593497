mod Going
mod Saying
pub mod Calling
mod Working
mod Gathering
mod Returning
mod Listing
mod EvenShares
mod Sharing
mod Opened
mod Causing
mod Fronts
mod Losing
