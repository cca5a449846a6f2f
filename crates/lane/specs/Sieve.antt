-- The words of sieves, over those of filters.
pub use Rattle.body_filter.specs.Filter
pub use Rattle.body_filter.specs.Valid
pub mod Feeds
pub mod Sieved
