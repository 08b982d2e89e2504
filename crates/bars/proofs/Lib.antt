pub mod Walks
pub mod Records
pub mod Ways
pub mod Grid
pub mod Slots
pub mod Gates
pub mod Leads
