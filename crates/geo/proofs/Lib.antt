-- The laws that the proofs share, and values worked out.
pub mod Constants
pub mod NearOne
pub mod Rounds
pub mod Cast
pub mod Edges
pub mod Places
pub mod Meaning
pub mod Centre
pub mod OnEarth
