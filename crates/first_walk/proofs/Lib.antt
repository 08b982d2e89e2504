pub mod Walking
pub mod Looking
pub mod Looks
pub mod Diving
pub mod Starting
