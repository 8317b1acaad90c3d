pub mod Tests
pub mod Moving
pub mod Prepared
pub mod Seen
