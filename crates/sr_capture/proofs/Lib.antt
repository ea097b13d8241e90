pub mod Arrivals
pub mod Beginnings
pub mod Gathering
