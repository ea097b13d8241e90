pub mod Causes
pub mod Choices
pub mod Handling
pub mod Known
pub mod Places
pub mod Progress
pub mod Steps
pub mod Told
