pub mod FrameVips
pub mod Once
pub mod Playing
pub mod Rarely
pub mod Rested
pub mod Taking
pub mod Switching
