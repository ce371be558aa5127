pub mod Counts
pub mod Directions
pub mod Ends
pub mod Kept
pub mod Taken
pub mod Walks
