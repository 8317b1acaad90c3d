pub mod Laws
pub mod Tabulate
