pub mod Param
pub mod Fetches
pub mod Found
pub mod Walk
