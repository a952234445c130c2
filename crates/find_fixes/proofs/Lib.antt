pub mod Joined
pub mod Reading
