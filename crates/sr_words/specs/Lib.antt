pub mod Besides
pub mod Boarding
pub mod Hearing
pub mod Laws
pub mod Rule
pub mod Seats
pub mod Steps
