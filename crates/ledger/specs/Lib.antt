pub mod Empty
pub mod Taking
pub mod Unserved
