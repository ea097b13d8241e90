pub mod Clashing
pub mod DowningKept
pub mod Filling
pub mod MoreLines
pub mod OwnPlaces
pub mod ReportsKept
pub mod Speaking
pub mod VerdictsKept
