pub mod Laws
pub mod Accepted
pub mod SoFar
pub mod Told
