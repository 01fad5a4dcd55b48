pub mod Reply
pub mod Server
pub mod Of
pub mod Steps
pub mod Refines
pub mod Orderly
pub mod Follows
