pub mod Growing
pub mod Fronts
mod Carrying
mod Beginning
mod InTime
mod Entering
mod Writing
mod Appending
mod Answering
mod Parting
mod Telling
mod Placing
mod Replays
mod Taking
mod Opening
mod Hearing
