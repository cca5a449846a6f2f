pub mod FaultLemmas
pub mod NameLemmas
pub mod GoodLemmas
pub mod OptionLemmas
pub mod ReadingLemmas
