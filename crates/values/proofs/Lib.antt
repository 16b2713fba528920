pub mod Ordering
pub mod Amounts
pub mod Holding
