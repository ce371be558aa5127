pub mod Tables
pub mod Lower
