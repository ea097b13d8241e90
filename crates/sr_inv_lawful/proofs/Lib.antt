pub mod Lawful
pub mod Reached
