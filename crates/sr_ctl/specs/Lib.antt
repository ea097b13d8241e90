pub mod Causes
pub mod Laws
pub mod Needs
pub mod SeenController
pub mod Settles
pub mod Steps
pub mod Turned
