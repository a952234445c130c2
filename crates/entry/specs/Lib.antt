pub mod Reply
pub mod Cut
pub mod Outputs
pub mod Correction
pub mod Unmoved
pub mod Listed
pub mod Numbered
