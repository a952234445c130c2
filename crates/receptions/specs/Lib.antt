pub mod Receptions
pub mod Identities
pub mod Meaning
pub mod Held
