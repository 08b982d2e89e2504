pub mod Layers
pub mod Goals
pub mod Labels
pub mod Near
pub mod Parts
pub mod Kernel
