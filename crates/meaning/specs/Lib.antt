pub mod Meaning
pub mod Sorted
pub mod Making
pub mod Constraints
