pub mod Lines
pub mod Table
pub mod Made
pub mod Making
pub mod Told
