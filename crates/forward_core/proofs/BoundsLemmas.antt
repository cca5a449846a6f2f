pub mod Filters
pub mod Heads
pub mod Bodies
pub mod Refusals
pub mod Stays
pub mod Made
