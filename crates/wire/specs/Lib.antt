pub mod Nearest
pub mod Wire
pub mod Meaning
pub mod Held
