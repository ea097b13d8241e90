pub mod Carried
pub mod Idle
pub mod Lines
pub mod Picked
