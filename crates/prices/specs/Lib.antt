pub mod Matching
pub mod Weights
pub mod Square
