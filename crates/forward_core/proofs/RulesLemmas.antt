pub mod Amends
pub mod Peers
pub mod Steady
