pub mod Numbered
mod Pieces
mod FirstLine
mod LineCount
