pub mod Calls
pub mod Away
pub mod Feeds
pub mod Once
pub mod Chains
pub mod Streams
pub mod Promises
