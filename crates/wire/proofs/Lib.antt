-- The laws that the proofs share, what the definitions mean (Meaning, Back), and values worked out (Edges).
pub mod Distance
pub mod Meaning
pub mod Scaled
pub mod Reach
pub mod Limits
pub mod Words
pub mod Arms
pub mod Exactly
pub mod Again
pub mod Quotient
pub mod Back
pub mod Edges
