pub mod All
pub mod Bits
pub mod Last
