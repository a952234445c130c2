pub mod Faults
pub mod Domain
pub mod Inputs
pub mod InDomain
pub mod Uncorrected
pub mod Held
