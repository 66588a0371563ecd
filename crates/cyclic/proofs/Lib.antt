pub mod Keeps
pub mod Numbers
