pub mod Accounts
pub mod Figures
pub mod Slots
