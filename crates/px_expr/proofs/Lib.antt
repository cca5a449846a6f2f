mod Through
mod GivenLemmas
