-- The laws of patterns, of their numbers, and of their counts.
pub mod Places
pub mod Once
pub mod Rows
pub mod Listing
pub mod Left
pub mod Sum
pub mod Tally
pub mod Edges
