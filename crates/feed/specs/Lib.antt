pub mod Feeds
pub mod Calls
