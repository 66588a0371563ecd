pub mod Squares
pub mod Keeps
