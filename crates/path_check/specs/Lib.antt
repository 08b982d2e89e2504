pub mod Grids
pub mod Answers
