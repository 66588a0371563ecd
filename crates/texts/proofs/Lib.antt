pub mod Good
pub mod Answers
pub mod Placed
pub mod Determined
pub mod Answered
