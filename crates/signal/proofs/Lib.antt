pub mod Value
pub mod Keeps
pub mod Distance
