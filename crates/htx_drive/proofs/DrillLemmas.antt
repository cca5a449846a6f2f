pub mod Plans
pub mod Behind
