pub mod Loading
pub mod Matching
pub mod OneVersion
pub mod Recorders
pub mod Ringing
pub mod Tabling
pub mod Ticking
