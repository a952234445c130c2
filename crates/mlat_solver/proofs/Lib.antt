-- Document 01's table of edges, what numbers mean to callers, and the laws that proofs share.
pub mod Edges
pub mod Meaning
pub mod Lending
pub mod Returned
pub mod Display
pub mod Written
pub mod Solved
pub mod Published
pub mod ShortOutput
