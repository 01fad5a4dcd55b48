pub mod Parties
pub mod Watch
pub mod Report
pub mod Promise
pub mod Clocks
pub mod Names
