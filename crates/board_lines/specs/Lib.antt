pub mod Board
pub mod Stands
pub mod Small
pub mod Rounds
