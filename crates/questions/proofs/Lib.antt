pub mod Cuts
pub mod Asked
