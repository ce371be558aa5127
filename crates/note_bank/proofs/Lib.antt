pub mod Shares
pub mod Fronts
pub mod Seen
pub mod Joins
pub mod Meaning
