pub mod JobBegins
pub mod JobGoes
pub mod JobSteps
pub mod JobTakes
pub mod JobsKept
pub mod JobsOpen
pub mod Standing
