pub mod Session
pub mod Conservation
