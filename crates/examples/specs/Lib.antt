pub mod Drive
pub mod Rows
pub mod Literals
pub mod Ranges
pub mod Calls
pub mod Files
pub mod Marks
