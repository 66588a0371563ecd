pub mod Written
pub mod Put
pub mod U16
pub mod Again
pub mod Slices
