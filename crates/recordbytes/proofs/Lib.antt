pub mod Walking
pub mod Spanning
pub mod Numbering
pub mod Writing
pub mod Each
