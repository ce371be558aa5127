pub mod Digits
pub mod Laid
pub mod Parts
pub mod Numerals
pub mod Taken
