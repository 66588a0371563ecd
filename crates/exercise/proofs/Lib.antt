pub mod Outcome
pub mod Buffer
pub mod Determined
pub mod Rebuilt
