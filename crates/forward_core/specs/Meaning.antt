pub use Rattle.session_model.specs.Meaning
pub use Rattle.http_rules.specs.Rules
pub use Rattle.http_rules.specs.Valid
pub mod Beginning
pub mod Product
