pub mod Members
pub mod Told
pub mod Rounds
