pub mod Sounding
pub mod Memory
