pub mod TaskLists
pub mod Flow
pub mod Calls
pub mod Dark
