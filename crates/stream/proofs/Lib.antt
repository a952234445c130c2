pub mod Solving
pub mod Meaning
pub mod Next
pub mod Long
