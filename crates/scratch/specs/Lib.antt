pub mod Front
pub mod Bounded
