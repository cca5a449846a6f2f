-- What a request is for an application: pairs, and records.
pub mod Texts
pub mod Stages
pub mod Sending
pub mod Spelled
pub mod Stands
pub mod Opening
