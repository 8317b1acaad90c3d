pub mod Inner
pub mod Questions
