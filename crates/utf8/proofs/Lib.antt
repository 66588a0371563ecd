pub mod Encoding
pub mod Width
pub mod Utf8
pub mod OneWay
pub mod Counted
pub mod Determined
