pub mod Pair
pub mod Screen
pub mod Meaning
pub mod State
pub mod Turns
pub mod Others
pub mod Held
