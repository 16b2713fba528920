pub mod Making
pub mod Holding
