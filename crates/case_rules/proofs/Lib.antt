mod RunsLemmas
