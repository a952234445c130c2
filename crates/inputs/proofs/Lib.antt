-- The laws that the proofs share. Order and Places serve the crates above too.
pub mod Clause
pub mod Limits
pub mod Correction
pub mod Held
pub mod Steps
pub mod Order
pub mod Sound
pub mod Ties
pub mod Places
pub mod Uncorrected
