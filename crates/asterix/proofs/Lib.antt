-- The laws that the proofs share, what the definitions mean (Meaning, Back), and values worked out (Edges).
pub mod Signs
pub mod Rounding
pub mod Ten
pub mod Arms
pub mod Meaning
pub mod Back
pub mod Edges
