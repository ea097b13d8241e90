pub mod Config
pub mod Played
