pub mod Version
pub mod Bytes
