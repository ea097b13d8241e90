mod FirstPools
pub mod MoreSteps
mod Places
mod Rooms
pub mod Showing
mod Stepped
mod Views
