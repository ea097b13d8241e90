pub mod Hits
pub mod Learning
pub mod Marking
pub mod Numbers
mod Parts
pub mod Passing
pub mod Placing
pub mod Track
