pub mod Low
pub mod Graded
