pub use Rattle.session_model.specs.Amending
pub use Rattle.http_rules.specs.Run
pub mod Ruling
pub mod Steady
