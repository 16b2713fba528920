pub mod Faults
pub mod Meaning
pub mod Calls
pub mod Questions
pub mod Counting
pub mod Sounding
