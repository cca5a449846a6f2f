pub mod Drawn
pub mod Drill
pub mod Lines
pub mod Plan
