pub mod Answers
pub mod Run
