pub mod Levels
pub mod Means
pub mod Reads
