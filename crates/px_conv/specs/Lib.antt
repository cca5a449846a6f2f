pub mod Template
pub mod Regsub
pub mod Replacing
pub mod Conv
pub mod Encode
pub mod Fields
