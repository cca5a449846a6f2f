pub mod Matches
pub mod Condition
