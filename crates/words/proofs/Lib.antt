-- The laws that the proofs share, and what reading and writing come to (Back).
pub mod Back
pub mod Bytes
pub mod Halves
