pub mod Same
pub mod Long
