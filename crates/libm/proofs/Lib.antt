-- The laws that the proofs share, and worked values.
pub mod Infinity
pub mod Cast
pub mod Sizes
pub mod Limit
pub mod Magnitudes
pub mod Unsigned
pub mod HighWords
pub mod Quarter
pub mod KernelBounds
pub mod StageBounds
pub mod ReducedBounds
pub mod ArcBounds
pub mod MediumBounds
pub mod ScaledBounds
pub mod SubnormalBounds
pub mod LengthBounds
pub mod Meaning
mod Worked
pub mod Arcs
