pub mod Lowest
pub mod Test
pub mod Rows
pub mod Levels
