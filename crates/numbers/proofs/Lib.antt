pub mod Tests
pub mod Choice
pub mod All
pub mod Alike
pub mod Last
