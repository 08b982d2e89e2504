pub mod Accepted
mod Fills
