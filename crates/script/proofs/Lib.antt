pub mod Cuts
pub mod Given
