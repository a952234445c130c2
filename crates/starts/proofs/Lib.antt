-- The laws that the proofs share. Stores, Count and Back serve the crates above too.
pub mod Constants
pub mod Packed
pub mod Stores
pub mod Places
pub mod Count
pub mod Back
pub mod Formatted
pub mod Meaning
