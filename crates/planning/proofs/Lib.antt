pub mod Answering
pub mod Bounding
