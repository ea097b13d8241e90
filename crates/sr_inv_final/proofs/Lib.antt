mod Answering
pub mod Ending
pub mod Entering
mod HeldLines
pub mod Resting
pub mod SamePackets
mod Summing
mod Telling
