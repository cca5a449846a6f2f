pub mod Spelled
pub mod SpelledActions
pub mod SpelledSettings
pub mod SpelledPairs
pub mod Laws
