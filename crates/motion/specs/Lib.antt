pub mod Direction
pub mod Remote
pub mod Standing
