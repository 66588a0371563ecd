pub mod Masks
pub mod Keeps
