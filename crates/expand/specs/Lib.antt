pub mod Given
pub mod Held
pub mod Children
