pub mod PublicLaws
mod BlankLemmas
mod DigitLemmas
mod HexLemmas
mod PieceLemmas
mod ValueLemmas
