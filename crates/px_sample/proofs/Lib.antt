mod EntryLemmas
mod SlotLemmas
mod FoundLemmas
mod PartLemmas
mod HeldLemmas
mod SetLemmas
mod CastLemmas
mod FetchedLemmas
