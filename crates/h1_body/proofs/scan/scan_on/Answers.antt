use Rattle.std.proofs.Common.{◌≡◌, ℕ, length, arith, subst, take}
use Rattle.h1_body.specs.Scan.{IsScanned}
use Rattle.h1_body.proofs.Scans.{scanned_next}
use Rattle.h1_body.proofs.scan.scan_on.Goals as goal

pub loop-at-init : goal.loop-at-init
loop-at-init c = c.requires

pub lines_behind-behind-requires : goal.lines_behind-behind-requires
lines_behind-behind-requires c = c.loop-at.invariant.few

pub returns-then-behind-gt-MAX_FIELDS : goal.returns-then-behind-gt-MAX_FIELDS
returns-then-behind-gt-MAX_FIELDS c = c.loop-at.invariant

pub returns-in-None : goal.returns-in-None
returns-in-None c = c.loop-at.invariant

pub loop-at-preserved : goal.loop-at-preserved
loop-at-preserved c =
    let l = c.loop-at in
    let w = c.args.window.now in
    scanned_next w l.at l.lines c.lines_behind-behind.result l.place c.in-Some.next c.loop-at-test.true l.invariant
    (c.in-Some.ensures (take l.at w)) c.lines_behind-behind.ensures.count (omega (arith, c.if-behind-gt-MAX_FIELDS.false))

pub returns : goal.returns
returns c =
    let l = c.loop-at in
    let w = c.args.window.now in
    let end : l.at ≡ length w = omega (arith, c.loop-at-test.false, l.invariant.within) in
    subst (λ (n : ℕ). IsScanned w (record { len = n; lines = l.lines; place = l.place })) end l.invariant
