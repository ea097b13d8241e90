mod Newest
pub mod Keeps
