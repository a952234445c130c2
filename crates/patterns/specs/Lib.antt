pub mod Patterns
pub mod Meaning
