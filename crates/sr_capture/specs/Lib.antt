pub mod Capture
pub mod Clock
pub mod Packets
pub mod Reader
pub mod Record
pub mod Records
