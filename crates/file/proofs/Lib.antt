pub mod Header
pub mod Runs
pub mod Good
pub mod Reader
pub mod Determined
