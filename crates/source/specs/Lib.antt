pub mod Slots
pub mod Fetching
pub mod Packing
pub mod Lining
pub mod Judging
