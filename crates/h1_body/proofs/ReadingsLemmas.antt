pub mod Lines
pub mod FirstLines
pub mod Sections
pub mod Places
