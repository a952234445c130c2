pub mod Methods
pub mod Vec3
pub mod Held
