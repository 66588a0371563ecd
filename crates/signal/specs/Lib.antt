pub mod Ranges
pub mod Value
pub mod Speed
pub mod NewCode
pub mod Man
pub mod Curve
pub mod Steps
pub mod Laws
