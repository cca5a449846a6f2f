pub use Rattle.session_model.specs.Stream
pub use Rattle.session_model.specs.Meaning
pub use Rattle.session_model.specs.Session
pub mod Bound
pub mod Decided
