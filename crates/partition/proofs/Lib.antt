pub mod Candidates
pub mod Splits
pub mod Murty
