pub mod Asked
pub mod Finished
