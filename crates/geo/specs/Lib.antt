pub mod Geo
pub mod Meaning
pub mod Held
