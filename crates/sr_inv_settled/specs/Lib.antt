pub mod Laws
pub mod Quiet
pub mod Told
pub mod Used
