pub mod Days
pub mod Money
pub mod Held
