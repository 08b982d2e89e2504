pub mod Weighing
pub mod Firsts
pub mod Orders
pub mod Slots
