pub mod Lines
pub mod Standing
pub mod Rounds
