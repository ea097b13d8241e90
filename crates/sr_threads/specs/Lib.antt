pub mod Governing
pub mod Hiring
pub mod Playing
pub mod Replayed
pub mod Working
