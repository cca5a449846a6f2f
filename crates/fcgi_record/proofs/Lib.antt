pub mod Bytes
pub mod KindBytes
