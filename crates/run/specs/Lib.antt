pub mod Read
pub mod Said
pub mod Index
pub mod Inner
pub mod Seen
