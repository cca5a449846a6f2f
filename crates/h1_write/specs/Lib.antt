pub mod Put
pub mod Units
pub mod Spelled
pub mod Kept
pub mod ReadBack
