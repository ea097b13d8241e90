pub mod Acting
pub mod Interleaving
pub mod Standing
pub mod Together
