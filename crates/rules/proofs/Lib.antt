pub mod Keeps
pub mod After
pub mod Valve
pub mod Bytes
pub mod Curve
pub mod Moving
