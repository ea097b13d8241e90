pub mod Captured
pub mod Lines
pub mod Resting
