pub mod Counted
pub mod Partners
pub mod Brought
pub mod Start
