pub mod Words
pub mod Kernels
pub mod RemPio2
pub mod Trig
pub mod Atan
pub mod Hypotenuse
pub mod Meaning
