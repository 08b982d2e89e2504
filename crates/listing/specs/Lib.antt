pub mod Wrote
pub mod Appends
pub mod Listed
