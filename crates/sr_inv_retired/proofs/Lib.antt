pub mod Endings
pub mod RetirementsKept
pub mod Retiring
