pub mod Cutting
pub mod Widths
pub mod Reading
pub mod Rereading
pub mod Deciding
pub mod Telling
