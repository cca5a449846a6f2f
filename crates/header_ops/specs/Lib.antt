pub mod Headers
pub mod Matching
pub mod Removal
pub mod Lists
pub mod Walk
