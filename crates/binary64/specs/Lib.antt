pub mod Steps
pub mod Within
pub mod Root
pub mod Rounding
pub mod Meaning
pub mod Held
