pub mod Bytes
pub mod Refusal
