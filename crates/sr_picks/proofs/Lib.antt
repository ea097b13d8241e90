pub mod Acts
pub mod Turns
pub mod Lowers
mod Once
pub mod Picked
pub mod Runs
