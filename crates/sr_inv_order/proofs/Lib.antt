pub mod Grouped
pub mod InRange
pub mod Joined
pub mod Lines
pub mod OrderOpens
pub mod Ordered
pub mod Placing
pub mod Rising
