pub mod FittingController
pub mod FittingJobs
pub mod FittingStages
pub mod FittingTakes
pub mod ShapesKept
pub mod ShapesOpen
