pub mod Listed
pub mod Nodes
pub mod Stored
