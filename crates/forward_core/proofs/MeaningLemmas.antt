pub mod Holds
pub mod Lists
