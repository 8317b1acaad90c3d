pub mod States
pub mod Judge
pub mod Inner
