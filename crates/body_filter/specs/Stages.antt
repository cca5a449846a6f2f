-- What the stages of a chain make of the bytes that may still come.
use Rattle.body_filter.specs.Filter.{passed, limited, searched}
use Rattle.body_filter.specs.Feeding.{Meaning}
use Rattle.body_filter.specs.Machines.{passer_meaning, limiter_meaning, searcher_meaning}
use Rattle.body_filter.specs.declared.stage.Stage.{Stage}
use Rattle.body_filter.specs.declared.stage.Stage.TheVariants.{Pass, Limit, Search}

abbrev pub stage_meaning : Stage → Meaning
stage_meaning (Pass p) = passer_meaning p
stage_meaning (Limit l) = limiter_meaning l
stage_meaning (Search s) = searcher_meaning s

-- what it makes of a body that has not begun
abbrev pub stage_fresh : Stage → Meaning
stage_fresh (Pass p) = passed
stage_fresh (Limit l) = limited l.most
stage_fresh (Search s) = searched s.needle s.to 0
