-- The laws of failing pairs, of their rows, of the removals, and of the numbers that these keep.
pub mod Gaps
pub mod Reach
pub mod Symmetry
pub mod Rows
pub mod Removal
pub mod Stored
pub mod Steps
pub mod Turns
pub mod Numbers
pub mod Search
pub mod Recorded
pub mod Edges
pub mod Others
