pub mod AddUp
pub mod EndsHold
pub mod Gathered
pub mod Refused
pub mod SevenHops
pub mod Totals
pub mod Unserved
pub mod Written
