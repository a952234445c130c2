-- The laws that the proofs share: where entries lie, what a solve leaves as it was, the columns of a factor, unit vectors; and
-- what holds of the results and of a factor for every size.
pub mod Places
pub mod Keeps
pub mod Columns
pub mod Units
pub mod Symmetry
pub mod Lower
