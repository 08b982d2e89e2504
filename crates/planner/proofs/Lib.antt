pub mod Sizes
pub mod Exported
