use Rattle.std.proofs.Common.{ℕ, List, ◌++◌, take, sym, ap, subst}
use Rattle.std.specs.Prelude.{Some, None}
use Rattle.h1_body.specs.declared.stages.Stage.{Stage}
use Rattle.h1_body.specs.declared.reader.BodyState.{BodyState}
use Rattle.h1_body.specs.BodyOf.{StateTells}
use Rattle.h1_body.specs.Stands.{bytes_of, state_at, WaitsAt}
use Rattle.h1_body.proofs.Told.{told}
use Rattle.h1_body.proofs.Scans.{reads_nothing, scanned_waits}
use Rattle.h1_body.proofs.reader.BodyReader.feed_grown.Goals as goal

pub returns-then-is_early-clause-leads : goal.returns-then-is_early-clause-leads
returns-then-is_early-clause-leads c = λ limits framing bytes found section read. reads_nothing c.args.window.now limits framing bytes found section c.args.self.now read

pub returns-then-is_early-clause-told : goal.returns-then-is_early-clause-told
returns-then-is_early-clause-told c = λ limits framing bytes found section read.
    let w = c.args.window.now in
    let early = c.is_early.ensures c.if-is_early.true in
    let none : List ℕ = bytes_of w (Some (record { from = 0; len = 0 })) in
    subst (λ (s : BodyState). StateTells limits framing (bytes ++ take 0 w) (found ++ none) (section ++ bytes_of w None) s) (ap state_at early.0)
    (told limits framing (bytes ++ take 0 w) (found ++ none) (section ++ bytes_of w None) c.args.self.now (reads_nothing w limits framing bytes found section c.args.self.now read))

pub returns-then-is_early-clause-state : goal.returns-then-is_early-clause-state
returns-then-is_early-clause-state c = let early = c.is_early.ensures c.if-is_early.true in sym (ap state_at early.0)

pub returns-then-is_early-clause-waits : goal.returns-then-is_early-clause-waits
returns-then-is_early-clause-waits c = λ limits framing bytes found section read none.
    let w = c.args.window.now in
    let early = c.is_early.ensures c.if-is_early.true in
    subst (λ (s : Stage). WaitsAt c.args.self.now.section_limit s w c.args.room) (sym early.0)
    (scanned_waits c.args.self.now.section_limit w c.look_on-seen.result c.look_on-seen.ensures early.1 early.2)
