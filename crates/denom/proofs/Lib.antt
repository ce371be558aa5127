pub mod Shifts
pub mod Back
pub mod Joins
pub mod Steps
pub mod Same
