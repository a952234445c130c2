pub mod Sets
pub mod Mask
pub mod Choice
pub mod Held
