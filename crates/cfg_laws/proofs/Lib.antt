mod LawLemmas
mod ReadLemmas
