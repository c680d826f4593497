mod Places
mod Steps
mod Watching
