pub mod Each
pub mod First
pub mod Low
pub mod Writing
