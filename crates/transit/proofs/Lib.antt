pub mod Between
pub mod Loads
pub mod Partner
pub mod Signs
pub mod Stored
