pub mod Bytes
pub mod Refusal
pub mod Kind
pub mod Reason
pub mod Layout
pub mod Record
pub mod Pass
pub mod Inner
