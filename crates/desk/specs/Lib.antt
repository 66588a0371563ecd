pub mod Desk
pub mod Laws
pub mod Calls
