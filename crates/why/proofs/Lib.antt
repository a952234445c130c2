-- The laws that the proofs share, and the proofs of the statements.
pub mod States
pub mod Writing
pub mod Verdicts
pub mod Agreement
pub mod Order
