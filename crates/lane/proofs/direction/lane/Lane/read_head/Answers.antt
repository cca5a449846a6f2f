use Rattle.std.proofs.Common.{◌≡◌, ℕ, ◌≤◌, Bool, true, false, ap, sym, ◌∙◌, subst, length, drop, Option, Some, None, refl, arith}
use Rattle.std.proofs.lemmas.List.{length-drop}
use Rattle.std.specs.Prelude.{is_some}
use Rattle.wire_buf.specs.Buffer.{Buffer}
use Rattle.http_model.specs.declared.Ending.{Ending}
use Rattle.h1_head.specs.Sides.{kind_of}
use Rattle.h1_head.specs.Decides.{MayWait}
use Rattle.lane.proofs.DirectionLemmas.HeadLemmas.{looked, received, head_takes}
use Rattle.lane.specs.Direction.State.{LaneState}
use Rattle.lane.specs.contracts.direction.lane.Lane.{the_view}
use Rattle.lane.specs.Direction.Sends.{IsReading}
use Rattle.lane.proofs.direction.lane.Lane.read_head.Goals as goal

not_ended : (o : Option Ending) (whole : Bool) → whole ≡ is_some o → whole ≡ false → o ≡ None
not_ended None whole is no_end = refl
not_ended (Some how) whole is no_end = let both : true ≡ false = sym is ∙ no_end in absurd (cc both)

pub returns-else-whole-clause-tells : goal.returns-else-whole-clause-tells
returns-else-whole-clause-tells c =
    let l = the_view c.self.inside in
    let was = subst (λ (s : LaneState). IsReading c.args.side s) (sym c.self.view_is) c.requires in
    rw (← c.self.view_is) (let more = c.in-More.ensures in
    let old = more.same in
    looked c.args.side l c.in-More.skip c.len-self-inside.result c.drop_front.new.self c.read_head.new.to was
    (not_ended l.ended c.is_some-whole.result c.is_some-whole.ensures c.if-whole.false)
    more.skip (c.drop_front.ensures.items ∙ ap (λ (b : Buffer ℕ). drop c.in-More.skip b.items) old) (c.drop_front.ensures.capacity ∙ ap (λ (b : Buffer ℕ). b.capacity) old) more.lines
    (subst (λ (b : Bool). MayWait (kind_of c.args.side) l.limits b l.input.items) c.if-whole.false more.waits)
    more.scanned c.drops_lines.ensures more.unkept more.size c.len-self-inside.ensures.len)

pub returns-in-Head-clause-tells : goal.returns-in-Head-clause-tells
returns-in-Head-clause-tells c =
    let l = the_view c.self.inside in
    let was = subst (λ (s : LaneState). IsReading c.args.side s) (sym c.self.view_is) c.requires in
    rw (← c.self.view_is) (let got = c.in-Head.ensures in
    received c.args.side l c.in-Head.used c.drop_front-in-Head.new.self c.read_head.new.to c.in-Head.framing c.in-Head.declared c.in-Head.close c.is_some-whole.result was c.is_some-whole.ensures
    (c.drop_front-in-Head.ensures.items ∙ ap (λ (b : Buffer ℕ). drop c.in-Head.used b.items) got.same) (c.drop_front-in-Head.ensures.capacity ∙ ap (λ (b : Buffer ℕ). b.capacity) got.same) got.head got.size)

left_is : (input : Buffer ℕ) (old kept : Buffer ℕ) (n : ℕ) → input.items ≡ drop n kept.items → kept ≡ old → input.items ≡ drop n old.items
left_is input old kept n items same = items ∙ ap (λ (b : Buffer ℕ). drop n b.items) same

fewer : (input : Buffer ℕ) (old kept : Buffer ℕ) (n : ℕ) → input.items ≡ drop n kept.items → kept ≡ old → length input.items ≤ length old.items
fewer input old kept n items same =
    let e : length input.items ≡ length (drop n old.items) = ap length (left_is input old kept n items same) in
    let d = length-drop n old.items in
    omega arith

pub returns-in-Head-clause-takes : goal.returns-in-Head-clause-takes
returns-in-Head-clause-takes c =
    let l = the_view c.self.inside in
    rw (← c.self.view_is) (λ is.
    let got = c.in-Head.ensures in
    let k = got.head in
    let less = head_takes c.args.side l.limits l.input.items (drop c.in-Head.used l.input.items) c.is_some-whole.result (record { head = k.head; framing = c.in-Head.framing; declared = c.in-Head.declared; close = c.in-Head.close }) (c.has_bytes.ensures c.args.side) k.begins in
    let e : length c.drop_front-in-Head.new.self.items ≡ length (drop c.in-Head.used l.input.items) = ap length (left_is c.drop_front-in-Head.new.self l.input c.read_head.new.self c.in-Head.used c.drop_front-in-Head.ensures.items got.same) in
    omega arith)

pub returns-in-Head-clause-shrinks : goal.returns-in-Head-clause-shrinks
returns-in-Head-clause-shrinks c =
    let l = the_view c.self.inside in
    rw (← c.self.view_is) (fewer c.drop_front-in-Head.new.self l.input c.read_head.new.self c.in-Head.used c.drop_front-in-Head.ensures.items c.in-Head.ensures.same)

pub returns-then-whole-clause-shrinks : goal.returns-then-whole-clause-shrinks
returns-then-whole-clause-shrinks c =
    let l = the_view c.self.inside in
    rw (← c.self.view_is) (fewer c.drop_front.new.self l.input c.read_head.new.self c.in-More.skip c.drop_front.ensures.items c.in-More.ensures.same)

pub returns-else-whole-clause-shrinks : goal.returns-else-whole-clause-shrinks
returns-else-whole-clause-shrinks c =
    let l = the_view c.self.inside in
    rw (← c.self.view_is) (fewer c.drop_front.new.self l.input c.read_head.new.self c.in-More.skip c.drop_front.ensures.items c.in-More.ensures.same)
