pub mod State
pub mod Mode
pub mod Laws
