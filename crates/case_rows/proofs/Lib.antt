mod ArrayLemmas
mod BodiesLemmas
