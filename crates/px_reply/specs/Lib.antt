pub mod Finished
pub mod Refused
