pub mod Denomination
pub mod Text
pub mod Views
pub mod Laws
