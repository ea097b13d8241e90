pub mod Blocks
pub mod Filling
pub mod Judged
pub mod Nexts
pub mod Time
pub mod Walking
