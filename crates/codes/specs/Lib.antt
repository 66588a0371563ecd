pub mod Ranges
pub mod Target
pub mod Gap
pub mod Plus
pub mod Laws
