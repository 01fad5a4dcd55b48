-- Lemmas of the crate.
pub mod Hearing
pub mod Taking
pub mod Turns
pub mod Steps
pub mod Runs
pub mod Scheduling
pub mod Tracing
pub mod Events
pub mod Moments
pub mod Pacing
