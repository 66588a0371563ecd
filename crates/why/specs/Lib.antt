pub mod Starts
pub mod Why
pub mod Told
pub mod Promise
