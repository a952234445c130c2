-- The laws that the proofs share, and records worked out.
pub mod Copies
pub mod Parts
pub mod Rows
pub mod Edges
