pub mod Issuing
pub mod Looking
pub mod Receiving
pub mod Sending
pub mod Settling
pub mod View
