pub mod HeldTakes
pub mod HeldsKept
pub mod JobsHeld
pub mod PipeHelds
pub mod PipesKept
pub mod Punting
pub mod StageHelds
