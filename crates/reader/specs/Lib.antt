pub mod Rules
pub mod Tests
pub mod Read
pub mod Meaning
pub mod Stands
