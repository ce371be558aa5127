pub mod Notes
pub mod Meaning
