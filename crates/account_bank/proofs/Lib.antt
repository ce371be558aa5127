pub mod Tables
pub mod Meaning
