pub mod Priced
pub mod Duals
pub mod Calls
