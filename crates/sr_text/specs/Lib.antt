pub mod Adding
pub mod Fields
pub mod Fronts
pub mod LineText
pub mod Log
pub mod Ranges
