pub mod Heights
pub mod Limits
pub mod Local
pub mod Mirrored
