pub mod Entries
pub mod Serves
