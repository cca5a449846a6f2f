pub mod Windows
pub mod Closing
pub mod Listed
pub mod Steps
