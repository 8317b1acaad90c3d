pub mod Answered
pub mod Shown
pub mod Inner
