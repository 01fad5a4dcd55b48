pub mod Schedule
pub mod Run
pub mod Pacing
pub mod Reached
