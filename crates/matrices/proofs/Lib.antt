-- The laws that the proofs share: sizes, and a copy; and what the calls come to.
pub mod Sizes
pub mod Copies
pub mod Meaning
