pub mod File
pub mod Runs
pub mod Read
