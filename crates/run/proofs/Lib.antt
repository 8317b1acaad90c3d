pub mod Indexing
pub mod SoFar
pub mod Places
pub mod Accepted
pub mod Sides
pub mod Listed
pub mod Kept
pub mod Clocks
