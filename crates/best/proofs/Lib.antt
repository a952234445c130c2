-- The laws of the best fit, for this crate and those above it.
pub mod Constants
pub mod Squares
pub mod Order
pub mod Passes
pub mod Ranges
pub mod Judging
pub mod Cost
pub mod Zeros
pub mod Cheapest
pub mod Found
pub mod Listing
pub mod Gathering
pub mod Over
