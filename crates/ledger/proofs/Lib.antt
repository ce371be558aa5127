pub mod Answers
pub mod Filled
pub mod Lent
pub mod Supplies
