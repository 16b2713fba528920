pub mod Tiling
pub mod Parting
pub mod Forming
pub mod Telling
pub mod Plain
