pub mod Permitted
pub mod Answer
pub mod Tick
pub mod Findings
pub mod After
