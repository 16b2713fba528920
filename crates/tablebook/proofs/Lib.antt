pub mod Stepping
pub mod Seeking
