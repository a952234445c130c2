-- The laws of sets, masks and choices, for this crate and those above it.
pub mod Tests
pub mod Belonging
pub mod Counting
pub mod Listed
pub mod Digits
pub mod Masks
pub mod Choosing
