pub mod Judged
pub mod Accepted
pub mod Told
pub mod Inner
pub mod Firsts
pub mod Pairing
pub mod Order
