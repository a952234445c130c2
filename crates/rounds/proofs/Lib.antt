-- Demand 3 holds of the computation, and of one answer only; the laws of the code's parts; and that the covariance of a fix is
-- symmetric.
pub mod Clause
pub mod Choices
pub mod Steps
pub mod Chains
pub mod Claim
pub mod Exact
pub mod Certainty
pub mod Moments
pub mod Finished
pub mod Searches
pub mod Looks
pub mod Points
pub mod Gathering
pub mod Late
pub mod Turns
pub mod Runs
pub mod Found
pub mod Mirrors
pub mod Shown
pub mod Capped
pub mod Members
pub mod Unread
pub mod Definite
pub mod Published
