pub mod Bits
pub mod Grouping
pub mod Keeping
pub mod Levels
pub mod SetMarks
pub mod Tiering
pub mod Walks
pub mod Wording
