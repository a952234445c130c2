pub mod Plausible
pub mod Best
pub mod Held
pub mod OfProblem
pub mod Meaning
