pub mod Boards
mod Events
mod Picks
pub mod Pipes
mod Turns
