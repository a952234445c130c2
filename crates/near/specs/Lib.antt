pub mod Near
pub mod Meaning
pub mod Parts
