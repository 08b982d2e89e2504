pub mod Longest
pub mod LentWords
