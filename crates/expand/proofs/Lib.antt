pub mod RootPaths
pub mod NextRoot
pub mod ChildPath
pub mod Expansion
