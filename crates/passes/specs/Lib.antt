pub mod Ready
pub mod Listed
pub mod Courses
