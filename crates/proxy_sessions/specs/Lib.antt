pub mod Connections
pub mod Driven
pub mod Lines
pub mod Ready
pub mod Recorded
pub mod Running
pub mod Serving
pub mod Spare
