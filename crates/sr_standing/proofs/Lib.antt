pub mod Making
pub mod Judging
pub mod StandingBegins
pub mod StandingTakes
pub mod StandingKept
