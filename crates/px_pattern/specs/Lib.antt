pub mod Pattern
pub mod Groups
pub mod Meaning
pub mod Building
pub mod Seeking
pub mod Refusals
pub mod Keeping
