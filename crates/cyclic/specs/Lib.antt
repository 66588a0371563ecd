pub mod Ranges
pub mod Laws
pub mod Kind
pub mod Cyclic
