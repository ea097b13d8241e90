pub mod Causing
pub mod Endings
pub mod Entering
pub mod Leading
pub mod Legs
pub mod Lining
pub mod Looks
