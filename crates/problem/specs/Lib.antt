pub mod Problem
pub mod Gathered
