pub mod ChannelTests
