pub mod Slots
pub mod Choices
pub mod Tournament
pub mod Begun
