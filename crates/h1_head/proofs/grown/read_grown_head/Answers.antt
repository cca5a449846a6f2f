use Rattle.std.proofs.Common.{Bool, false, sym, subst}
use Rattle.h1_head.specs.Sides.{kind_of}
use Rattle.h1_head.specs.Decides.{MayWait}
use Rattle.h1_head.proofs.EachSide.{each_is_lawful}
use Rattle.h1_head.proofs.Scans.{still_alone, still_waits, all_scanned, on_more}
use Rattle.h1_head.proofs.grown.read_grown_head.Goals as goal

pub returns-then-is_early-clause-lines : goal.returns-then-is_early-clause-lines
returns-then-is_early-clause-lines c =
    let early = c.is_early.ensures c.if-is_early.true in
    sym (still_alone (kind_of c.args.side) c.args.limits c.args.window.now c.args.scanned c.requires.scanned early.1)

pub returns-then-is_early-clause-waits : goal.returns-then-is_early-clause-waits
returns-then-is_early-clause-waits c =
    let early = c.is_early.ensures c.if-is_early.true in
    subst (λ (whole : Bool). MayWait (kind_of c.args.side) c.args.limits whole c.args.window.now) (sym early.0)
    (still_waits (kind_of c.args.side) (each_is_lawful c.args.side) c.args.limits c.args.window.now c.args.scanned c.requires.scanned early.1 early.2 early.3)

pub returns-then-is_early-clause-scanned : goal.returns-then-is_early-clause-scanned
returns-then-is_early-clause-scanned c =
    let early = c.is_early.ensures c.if-is_early.true in
    let K = kind_of c.args.side in
    all_scanned K c.args.limits false c.args.window.now 0 (sym (still_alone K c.args.limits c.args.window.now c.args.scanned c.requires.scanned early.1))
    (still_waits K (each_is_lawful c.args.side) c.args.limits c.args.window.now c.args.scanned c.requires.scanned early.1 early.2 early.3)

pub returns-clause-scanned : goal.returns-clause-scanned
returns-clause-scanned c = on_more (kind_of c.args.side) c.args.limits c.args.whole c.args.window.now c.read_head.result c.read_head.ensures.lines c.read_head.ensures.waits
