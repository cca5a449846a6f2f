pub mod Due
pub mod Ends
