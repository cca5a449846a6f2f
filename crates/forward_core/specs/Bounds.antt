pub use Rattle.session_core.specs.MeaningLaws.Bound
pub mod Decided
