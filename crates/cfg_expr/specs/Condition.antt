pub mod Words
pub mod Values
pub mod Flags
pub mod Tests
pub mod Lines
pub mod Conditions
