pub mod Looking
pub mod Seeing
pub mod Tracing
pub mod Writing
