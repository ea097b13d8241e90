pub mod Captured
pub mod Demo
pub mod Script
