pub mod Room
pub mod Records
