pub mod Spelled
pub mod Filtered
pub mod Replies
pub mod Exchanges
pub mod Bounds
pub mod Decides
