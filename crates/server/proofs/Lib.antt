pub mod States
pub mod Readings
pub mod Hearing
pub mod Exact
pub mod Answering
pub mod Refining
pub mod Ordering
pub mod Following
