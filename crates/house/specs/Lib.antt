pub mod Acts
pub mod Device
pub mod Hearing
pub mod Running
