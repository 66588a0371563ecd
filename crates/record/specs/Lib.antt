pub mod Codes
pub mod Modes
pub mod Flags
pub mod Record
pub mod Times
pub mod Sample
pub mod Laws
