pub mod Capture
pub mod Connection
pub mod Connections
pub mod Generator
pub mod Record
pub mod Turns
