pub mod Causes
pub mod Held
pub mod Keeping
pub mod Cause
