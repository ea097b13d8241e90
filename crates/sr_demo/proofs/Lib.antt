pub mod Counted
pub mod Judged
pub mod Lasting
pub mod Parsed
pub mod Reading
pub mod Shown
pub mod Timely
pub mod Twelve
