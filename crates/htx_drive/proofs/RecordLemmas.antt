pub mod Zips
pub mod Woven
pub mod Paid
