pub mod Denoms
pub mod Spelt
