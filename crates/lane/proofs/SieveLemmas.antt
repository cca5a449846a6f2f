pub mod Taking
pub mod Sifting
