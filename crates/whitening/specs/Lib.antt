pub mod Covariance
pub mod Whitened
pub mod Held
pub mod Normal
pub mod Meaning
