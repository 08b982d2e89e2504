pub mod Padded
pub mod Ways
pub mod Bars
pub mod Rest
