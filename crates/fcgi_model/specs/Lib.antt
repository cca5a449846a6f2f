-- What a request is for an application: pairs, and records.
pub mod Application
pub mod Head
pub mod Pairs
pub mod Records
pub mod Body
pub mod Flow
