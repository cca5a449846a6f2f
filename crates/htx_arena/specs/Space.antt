pub mod Windows
pub mod RunLends
pub mod SpaceLends
