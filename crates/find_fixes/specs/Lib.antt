pub mod Blocks
pub mod Decimals
pub mod Lines
