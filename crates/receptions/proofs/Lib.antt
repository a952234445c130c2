-- The laws of filled arrays, of receptions in them, and of the order of identities, for this crate and those above it.
pub mod Filling
pub mod Unpacked
pub mod Ordered
pub mod Derived
pub mod Bytes
pub mod Meaning
