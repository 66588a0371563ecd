pub mod Number
pub mod Bits
pub mod Speed
pub mod Pressure
