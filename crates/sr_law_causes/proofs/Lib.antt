pub mod Walking
pub mod Freely
pub mod Reporting
pub mod Unchanged
pub mod Plainly
