-- The laws that the proofs share.
pub mod Constants
pub mod Records
pub mod Refusing
pub mod Steps
pub mod Listing
pub mod Distances
pub mod Meaning
pub mod Ranked
pub mod Parts
