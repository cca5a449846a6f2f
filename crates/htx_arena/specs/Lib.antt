pub use Rattle.htx_model.specs.Block
pub use Rattle.htx_model.specs.Blocks
pub mod Late
pub mod Lending
pub mod Fields
pub mod Layout
pub mod Space
