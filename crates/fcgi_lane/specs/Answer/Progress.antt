-- How far a translator has come with the head, by its fields.
use Rattle.std.specs.Prelude.{ℕ, List}
use Rattle.fcgi_lane.specs.Answer.Cgi.{HeadAt, InHead, Behind, NoHead}
use Rattle.fcgi_lane.specs.declared.answer.translator.Progress.{Progress}
use Rattle.fcgi_lane.specs.declared.answer.translator.Progress.TheVariants as progress

abbrev pub head_of : Progress → (text left : List ℕ) → HeadAt
head_of progress.Head text left = InHead text
head_of progress.Behind text left = Behind left
head_of progress.NoHead text left = NoHead
