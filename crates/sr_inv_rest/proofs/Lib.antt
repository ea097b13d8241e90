mod Looks
mod Turns
pub mod Resting
