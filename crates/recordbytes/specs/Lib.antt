pub mod Classes
pub mod Walks
pub mod Spans
pub mod Numbers
pub mod Joins
pub mod Each
