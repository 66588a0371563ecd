pub mod Lines
pub mod Split
pub mod Judged
pub mod Faults
pub mod Offsets
pub mod Reading
pub mod Making
pub mod Determined
