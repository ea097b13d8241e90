pub mod Downs
pub mod Gives
