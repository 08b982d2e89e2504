pub mod Words
pub mod Tasks
pub mod Scans
