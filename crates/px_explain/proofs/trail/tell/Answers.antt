use Rattle.std.proofs.Common.{◌++◌, ◌∷◌, [], ap, ◌∙◌}
use Rattle.px_explain.specs.declared.trace.TraceLine.{TraceLine}
use Rattle.px_explain.specs.Told.{line_of}
use Rattle.px_explain.proofs.Shown.{adds_one}
use Rattle.px_explain.proofs.trail.tell.Goals as goal

pub returns : goal.returns
returns c = λ meant as_meant.
    let line : TraceLine = line_of c.args.which c.args.at c.args.step in
    adds_one c.args.trail.now (record { alloc = c.show.new.trail.alloc; lines = c.push.new.self; shows = c.show.new.trail.shows; text = c.show.new.trail.text }) line c.args.wanted meant c.args.msg.now c.raw-raw.result.now
    (c.in_ok-push.ensures.items ∙ ap (λ lines. lines.items ++ line ∷ []) c.in_ok-show.ensures.lines) c.in_ok-show.ensures.shows c.in_ok-show.ensures.text as_meant c.raw-raw.ensures.size c.raw-raw.ensures.held
