pub mod Kind
pub mod Clauses
pub mod Items
pub mod Judge
pub mod Read
pub mod Known
pub mod Inner
pub mod Accepted
