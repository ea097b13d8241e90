pub mod Clocks
pub mod Ending
