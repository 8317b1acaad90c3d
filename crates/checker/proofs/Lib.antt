pub mod Rows
pub mod Channels
