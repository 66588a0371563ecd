pub mod Desks
pub mod Fields
