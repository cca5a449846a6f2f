pub mod Meaning
pub mod Bounds
pub mod Rules
pub mod Request
pub mod Answer
pub mod Joined
