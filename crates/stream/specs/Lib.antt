pub mod Chunks
pub mod Said
pub mod Whole
pub mod Words
