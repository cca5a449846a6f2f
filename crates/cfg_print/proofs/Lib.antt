mod Joining
mod TableLemmas
mod PairLemmas
pub mod PublicLaws
