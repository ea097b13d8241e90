pub mod Openings
pub mod Rests
pub mod Totals
