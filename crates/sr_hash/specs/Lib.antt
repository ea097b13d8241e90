pub mod Clash
pub mod Fnv
pub mod Keyed
pub mod Uses
