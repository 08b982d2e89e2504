pub mod Plans
pub mod Nodes
pub mod Invariant
pub mod Deck
pub mod Demand
