pub mod Hearing
pub mod Running
