mod GroupLemmas
mod Alike
