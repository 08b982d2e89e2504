pub mod Given
pub mod Turning
pub mod Passing
pub mod Backing
pub mod OnCourse
