pub mod Below
pub mod Counted
pub mod Columns
