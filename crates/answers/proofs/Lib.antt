pub mod Fronts
pub mod Calls
pub mod ChannelLines
