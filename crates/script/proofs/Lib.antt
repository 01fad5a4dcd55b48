pub mod Readings
pub mod Fronts
