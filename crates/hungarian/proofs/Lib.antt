pub mod Columns
pub mod Gains
pub mod Rounds
