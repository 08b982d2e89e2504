pub mod Parts
pub mod Finishes
pub mod Walks
