pub mod ClosedKept
pub mod ClosingJobs
pub mod ClosingStages
pub mod CountsKept
pub mod Ending
pub mod Freshly
