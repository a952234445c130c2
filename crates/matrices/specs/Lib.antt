pub mod Matching
pub mod Calls
pub mod Meaning
