use Rattle.px_sample.proofs.EntryLemmas.{lookup-with, lookup-with_other, lookup-without, lookup-without_other}
use Rattle.px_sample.proofs.laws.one_variable_changes.Goals as goal

pub returns-clause-set_gives : goal.returns-clause-set_gives
returns-clause-set_gives c = lookup-with

pub returns-clause-set_keeps : goal.returns-clause-set_keeps
returns-clause-set_keeps c = lookup-with_other

pub returns-clause-unset_takes : goal.returns-clause-unset_takes
returns-clause-unset_takes c = lookup-without

pub returns-clause-unset_keeps : goal.returns-clause-unset_keeps
returns-clause-unset_keeps c = lookup-without_other
