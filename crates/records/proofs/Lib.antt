pub mod Cuts
pub mod Fields
pub mod Frames
pub mod Words
pub mod Writes
