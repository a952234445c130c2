pub mod States
pub mod Why
pub mod Meaning
pub mod Held
