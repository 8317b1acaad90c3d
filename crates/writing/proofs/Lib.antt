pub mod Decimal
pub mod Rows
pub mod Putting
pub mod Reading
pub mod Lengths
