pub mod Choices
pub mod Drawn
pub mod FreeNumbers
pub mod Learned
pub mod NewerPools
pub mod Opens
pub mod SamePools
pub mod Servers
