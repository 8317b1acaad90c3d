pub mod Clocks
pub mod Entered
pub mod Listing
