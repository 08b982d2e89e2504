pub mod Fill
pub mod Spread
pub mod Raise
pub mod Packed
pub mod Step
