pub mod Damped
pub mod Held
pub mod Meaning
