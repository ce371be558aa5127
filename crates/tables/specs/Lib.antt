pub mod Rows
pub mod Packets
pub mod Registers
pub mod Routes
pub mod View
