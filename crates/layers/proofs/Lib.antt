pub mod Bars
pub mod Sides
