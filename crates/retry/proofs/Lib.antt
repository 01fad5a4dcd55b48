-- Lemmas of the crate.
pub mod Steps
pub mod Apart
pub mod Renewal
pub mod InTime
pub mod Pauses
pub mod Witness
