pub mod Number
pub mod Patterns
pub mod Rounding
pub mod Bounds
