pub mod Adding
pub mod Counting
mod Kept
pub mod Reading
pub mod Windows
pub mod Writing
