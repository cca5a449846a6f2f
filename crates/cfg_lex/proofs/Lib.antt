mod SpanLemmas
mod PartLemmas
