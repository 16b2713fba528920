pub mod Masks
pub mod Growing
pub mod Slots
