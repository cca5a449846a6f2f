mod MeaningLemmas
mod BoundsLemmas
mod RulesLemmas
mod RequestLemmas
mod AnswerLemmas
mod JoinedLemmas
