pub mod Lines
pub mod Made
