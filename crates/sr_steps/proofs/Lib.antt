mod Plays
pub mod Runs
mod Settles
