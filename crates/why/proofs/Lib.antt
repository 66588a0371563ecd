pub mod Next
pub mod Began
pub mod Calls
pub mod Determined
pub mod Promise
pub mod Alike
pub mod Order
