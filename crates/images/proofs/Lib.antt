pub mod Heading
pub mod Pieces
pub mod Written
pub mod Seeking
