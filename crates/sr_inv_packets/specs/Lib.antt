pub mod Filter
pub mod Hits
pub mod Learning
pub mod Numbers
pub mod Passing
pub mod Placing
pub mod Track
