-- The laws that the proofs share.
pub mod Clause
pub mod Tests
pub mod Paragraph
pub mod Places
pub mod Assembled
pub mod Copied
pub mod Round
pub mod Nothing
pub mod Numbered
pub mod Reading
pub mod Meaning
pub mod Writing
pub mod Table
pub mod Fixed
pub mod Value
pub mod Shown
pub mod Stood
