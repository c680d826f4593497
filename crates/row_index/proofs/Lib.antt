pub mod Tests
mod Seated
mod Zoned
mod Saying
pub mod Lists
mod HeldRows
mod Opened
mod Reached
mod Gathering
mod Tallied
mod Stood
mod EventRows
mod Coming
mod Runs
mod Turning
mod Collected
mod Asked
mod Changing
mod Alone
mod Shown
mod Spelling
mod Firsts
pub mod SharedRows
mod Every
mod Groups
mod Told
