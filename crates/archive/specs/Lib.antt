pub mod Forms
pub mod Moves
pub mod Meaning
