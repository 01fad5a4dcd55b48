pub mod Script
pub mod Place
pub mod Laws
pub mod Words
