pub mod Grace
pub mod Laws
pub mod NumberSet
pub mod Numbers
pub mod Phases
pub mod Row
pub mod Updates
pub mod Waits
