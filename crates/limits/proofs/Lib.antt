-- The laws that the proofs share, and values worked out; and that the published covariance is symmetric.
pub mod Constants
pub mod Edges
pub mod Mirrors
