pub mod Functions
pub mod Ranges
pub mod Reasons
pub mod Demand1
pub mod Demand2
pub mod Demand3
pub mod Valve
pub mod Distance
