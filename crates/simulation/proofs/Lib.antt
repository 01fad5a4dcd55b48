pub mod Parties
pub mod Steps
