use Rattle.std.proofs.Common.{refl, ◌∙◌}
use Rattle.std.proofs.lemmas.Bool.{false≢true}
use Rattle.px_pattern.specs.Meaning.{pattern_of}
use Rattle.px_conv.specs.declared.regsub.Left.TheVariants as lefts
use Rattle.px_conv.proofs.ReplacingLemmas.{came_whole, fits_in_all, over_in_all}
use Rattle.px_conv.proofs.regsub.replace.Goals as goal

pub matches-preserved : goal.matches-preserved
matches-preserved c =
    let came = came_whole (pattern_of c.args.by.pat.now) (pattern_of c.args.by.pat.now) c.args.by.template.now c.args.by.which c.matches.rest.now
    c.matches.into c.replace_one.new.into (lefts.Text c.in-Text.after) refl (rw c.in-Text.is at c.in_ok-after.ensures.came) in
    record {
      cap = c.replace_one.ensures.cap ∙ c.matches.invariant.cap;
      whole = came ∙ c.matches.invariant.whole;
    }

pub returns-in-Nothing-clause-fits : goal.returns-in-Nothing-clause-fits
returns-in-Nothing-clause-fits c =
    let came = came_whole (pattern_of c.args.by.pat.now) (pattern_of c.args.by.pat.now) c.args.by.template.now c.args.by.which c.matches.rest.now
    c.matches.into c.replace_one.new.into lefts.Nothing refl (rw c.in-Nothing.is at c.in_ok-after.ensures.came) in
    (λ _. fits_in_all _ _ _ _ _ _ c.matches.invariant.whole c.matches.invariant.cap came.1, λ _. refl)

pub returns-in-Nothing-clause-replaced : goal.returns-in-Nothing-clause-replaced
returns-in-Nothing-clause-replaced c =
    let came = came_whole (pattern_of c.args.by.pat.now) (pattern_of c.args.by.pat.now) c.args.by.template.now c.args.by.which c.matches.rest.now
    c.matches.into c.replace_one.new.into lefts.Nothing refl (rw c.in-Nothing.is at c.in_ok-after.ensures.came) in
    came.0 ∙ c.matches.invariant.whole

pub returns-in-TooLong-clause-fits : goal.returns-in-TooLong-clause-fits
returns-in-TooLong-clause-fits c =
    let came = came_whole (pattern_of c.args.by.pat.now) (pattern_of c.args.by.pat.now) c.args.by.template.now c.args.by.which c.matches.rest.now
    c.matches.into c.replace_one.new.into lefts.TooLong refl (rw c.in-TooLong.is at c.in_ok-after.ensures.came) in (
      λ never. absurd (false≢true never),
      λ fits. absurd (over_in_all _ _ _ _ _ _ c.matches.invariant.whole c.matches.invariant.cap came fits),
    )
