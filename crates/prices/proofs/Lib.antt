pub mod Sums
pub mod Squares
pub mod Duality
pub mod Growth
pub mod First
