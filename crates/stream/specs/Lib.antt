pub mod Frames
pub mod Meaning
pub mod Held
