pub mod Sorts
pub mod Fetches
