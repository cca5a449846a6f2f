pub mod Runs
pub mod Passing
pub mod Sections
pub mod Heads
pub mod Sizes
pub mod Translating
pub mod Feeding
