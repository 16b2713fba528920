pub mod Counting
pub mod Latest
pub mod Answering
