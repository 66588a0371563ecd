pub mod Determined
pub mod Text
pub mod Kept
