pub mod Multiples
pub mod Items
pub mod Meaning
pub mod Edges
pub mod Held
