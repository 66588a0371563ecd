pub mod Sample
pub mod Call
