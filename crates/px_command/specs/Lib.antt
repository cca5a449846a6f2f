pub mod Asked
pub mod Command
pub mod Options
pub mod Parser
pub mod Texts
