pub mod Rooms
pub mod Seeking
