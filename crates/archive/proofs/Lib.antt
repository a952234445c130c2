-- The laws that the proofs share.
pub mod Pasted
pub mod Formed
pub mod Parts
pub mod Laid
pub mod Mirror
pub mod Readings
pub mod Moved
pub mod Meaning
