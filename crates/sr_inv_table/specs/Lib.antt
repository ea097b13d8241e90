pub mod Cells
pub mod Clearing
pub mod Drawn
pub mod Learning
pub mod Loaded
pub mod Matched
pub mod Standing
