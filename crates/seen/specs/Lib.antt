pub mod Stamp
pub mod Seen
pub mod Laws
