pub mod AnswerLemmas
pub mod RequestLemmas
