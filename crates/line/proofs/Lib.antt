pub mod Put
pub mod Determined
