pub mod Asked
pub mod Load
pub mod Waiting
