pub mod Costs
pub mod Turns
pub mod Over
pub mod Joined
pub mod Ranges
pub mod Meaning
pub mod Formatted
