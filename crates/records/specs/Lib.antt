pub mod Cut
pub mod Record
