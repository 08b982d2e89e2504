pub mod Answers
pub mod Meant
