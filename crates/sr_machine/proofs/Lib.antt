pub mod Following
pub mod Kept
pub mod PacketSteps
mod Rows
mod Scenes
mod TurnSteps
pub mod Words
pub mod Written
