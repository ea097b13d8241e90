pub mod Ending
pub mod Lawful
mod Playing
mod Rounding
pub mod Sharing
mod Standing
