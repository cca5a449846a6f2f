use Rattle.std.proofs.Common.{◌≡◌, ℕ, sym, ap, ◌∙◌, subst, arith, []}
use Rattle.wire_buf.specs.Buffer.{Buffer}
use Rattle.htx_arena.specs.Layout.Contents.{Contents}
use Rattle.h1_body.specs.declared.reader.BodyReader.{BodyReader}
use Rattle.h1_body.specs.Stands.{state_of}
use Rattle.lane.specs.Direction.Pulled.{IsWaiting}
use Rattle.lane.specs.Direction.Sends.{end_left}
use Rattle.http_model.specs.declared.Source.{Source}
use Rattle.http_model.specs.declared.Source.TheVariants as source
use Rattle.lane.proofs.DirectionLemmas.ReadLemmas.{Reads, sends_more, sends_whole, sends_bad, read_waits, read_nearer}
use Rattle.lane.specs.Direction.State.{LaneState}
use Rattle.lane.specs.contracts.direction.lane.Lane.{the_view}
use Rattle.std.specs.Prelude.{None}
use Rattle.lane.proofs.direction.lane.Lane.read_plain.Goals as goal

pub returns-in-Whole-clause-leads : goal.returns-in-Whole-clause-leads
returns-in-Whole-clause-leads c =
    let l = the_view c.self.inside in
    let was_empty = subst (λ (s : LaneState). s.msg.blocks ≡ []) (sym c.self.view_is) c.requires.empty in
    let was_plain = subst (λ (s : LaneState). s.sieve ≡ None) (sym c.self.view_is) c.requires.plain in
    rw (← c.self.view_is) (λ p s is.
    let r : Reads l c.pull-pulled.new.self c.pull-pulled.new.reader c.pull-pulled.new.to c.pull-pulled.result.used c.pull-pulled.result.state =
    record { pulls = c.pull-pulled.ensures.pulls; capacity = c.pull-pulled.ensures.capacity; size = c.pull-pulled.ensures.size; empty = was_empty; going = is; none = was_plain } in
    sends_whole l p c.pull-pulled.new.self c.pull-pulled.new.reader c.pull-pulled.new.to c.pull-pulled.result.used c.pull-pulled.result.state r c.in-Whole.is s)

pub returns-in-Bad-clause-leads : goal.returns-in-Bad-clause-leads
returns-in-Bad-clause-leads c =
    let l = the_view c.self.inside in
    let was_empty = subst (λ (s : LaneState). s.msg.blocks ≡ []) (sym c.self.view_is) c.requires.empty in
    let was_plain = subst (λ (s : LaneState). s.sieve ≡ None) (sym c.self.view_is) c.requires.plain in
    rw (← c.self.view_is) (λ p s is.
    let r : Reads l c.pull-pulled.new.self c.pull-pulled.new.reader c.pull-pulled.new.to c.pull-pulled.result.used c.pull-pulled.result.state =
    record { pulls = c.pull-pulled.ensures.pulls; capacity = c.pull-pulled.ensures.capacity; size = c.pull-pulled.ensures.size; empty = was_empty; going = is; none = was_plain } in
    sends_bad l p c.pull-pulled.new.self c.pull-pulled.new.reader c.pull-pulled.new.to c.pull-pulled.result.used c.pull-pulled.result.state r c.in-Bad.is s)

pub returns-then-pulled-gt0-clause-leads : goal.returns-then-pulled-gt0-clause-leads
returns-then-pulled-gt0-clause-leads c =
    let l = the_view c.self.inside in
    let was_empty = subst (λ (s : LaneState). s.msg.blocks ≡ []) (sym c.self.view_is) c.requires.empty in
    let was_plain = subst (λ (s : LaneState). s.sieve ≡ None) (sym c.self.view_is) c.requires.plain in
    rw (← c.self.view_is) (λ p s is.
    let r : Reads l c.pull-pulled.new.self c.pull-pulled.new.reader c.pull-pulled.new.to c.pull-pulled.result.used c.pull-pulled.result.state =
    record { pulls = c.pull-pulled.ensures.pulls; capacity = c.pull-pulled.ensures.capacity; size = c.pull-pulled.ensures.size; empty = was_empty; going = is; none = was_plain } in
    sends_more l p c.pull-pulled.new.self c.pull-pulled.new.reader c.pull-pulled.new.to c.pull-pulled.result.used c.pull-pulled.result.state r c.in-More.is s)

pub returns-else-pulled-gt0-clause-leads : goal.returns-else-pulled-gt0-clause-leads
returns-else-pulled-gt0-clause-leads c =
    let l = the_view c.self.inside in
    let was_empty = subst (λ (s : LaneState). s.msg.blocks ≡ []) (sym c.self.view_is) c.requires.empty in
    let was_plain = subst (λ (s : LaneState). s.sieve ≡ None) (sym c.self.view_is) c.requires.plain in
    rw (← c.self.view_is) (λ p s is.
    let r : Reads l c.pull-pulled.new.self c.pull-pulled.new.reader c.pull-pulled.new.to c.pull-pulled.result.used c.pull-pulled.result.state =
    record { pulls = c.pull-pulled.ensures.pulls; capacity = c.pull-pulled.ensures.capacity; size = c.pull-pulled.ensures.size; empty = was_empty; going = is; none = was_plain } in
    c.meet_end.ensures.leads p
    (sends_more l p c.pull-pulled.new.self c.pull-pulled.new.reader c.pull-pulled.new.to c.pull-pulled.result.used c.pull-pulled.result.state r c.in-More.is s)
    is
    was_plain
    (read_waits l p c.pull-pulled.new.self c.pull-pulled.new.reader c.pull-pulled.new.to c.pull-pulled.result.used c.pull-pulled.result.state r (omega arith) s)
    (sym c.pull-pulled.ensures.pulls.told ∙ c.in-More.is))

pub returns-else-pulled-gt0-clause-waits : goal.returns-else-pulled-gt0-clause-waits
returns-else-pulled-gt0-clause-waits c =
    let l = the_view c.self.inside in
    let was_empty = subst (λ (s : LaneState). s.msg.blocks ≡ []) (sym c.self.view_is) c.requires.empty in
    let was_plain = subst (λ (s : LaneState). s.sieve ≡ None) (sym c.self.view_is) c.requires.plain in
    rw (← c.self.view_is) (λ p s is no_more.
    let r : Reads l c.pull-pulled.new.self c.pull-pulled.new.reader c.pull-pulled.new.to c.pull-pulled.result.used c.pull-pulled.result.state =
    record { pulls = c.pull-pulled.ensures.pulls; capacity = c.pull-pulled.ensures.capacity; size = c.pull-pulled.ensures.size; empty = was_empty; going = is; none = was_plain } in
    let stays = c.meet_end.ensures.source no_more in
    let same = c.meet_end.ensures.same in
    let waits : IsWaiting c.pull-pulled.new.reader c.pull-pulled.new.self.items =
    read_waits l p c.pull-pulled.new.self c.pull-pulled.new.reader c.pull-pulled.new.to c.pull-pulled.result.used c.pull-pulled.result.state r (omega arith) s in (
      stays.0,
      c.meet_end.ensures.keeps.ended ∙ stays.1,
      subst (λ (x : BodyReader). IsWaiting x c.meet_end.new.self.input.items) (sym same.4) (subst (λ (b : Buffer ℕ). IsWaiting c.pull-pulled.new.reader b.items) (sym same.1) waits),
      ap state_of same.4 ∙ sym c.pull-pulled.ensures.pulls.told ∙ c.in-More.is,
    ))

pub returns-else-pulled-gt0-clause-empty : goal.returns-else-pulled-gt0-clause-empty
returns-else-pulled-gt0-clause-empty c =
    let l = the_view c.self.inside in
    rw (← c.self.view_is) (λ p s is no_more. ap (λ (m : Contents). m.blocks) c.meet_end.ensures.same.2 ∙ c.pull-pulled.ensures.pulls.nothing (omega arith))

pub returns-then-pulled-gt0-clause-nearer : goal.returns-then-pulled-gt0-clause-nearer
returns-then-pulled-gt0-clause-nearer c =
    let l = the_view c.self.inside in
    let was_plain = subst (λ (s : LaneState). s.sieve ≡ None) (sym c.self.view_is) c.requires.plain in
    rw (← c.self.view_is) (λ is _.
    let step = read_nearer l.reader c.pull-pulled.new.reader l.input.items c.pull-pulled.new.self.items l.msg.size c.pull-pulled.result.used c.pull-pulled.new.to.blocks c.pull-pulled.result.state c.pull-pulled.ensures.pulls in
    let one : end_left l.source l.sieve ≡ 1 = ap (λ (x : Source). end_left x l.sieve) is ∙ ap (end_left source.Going) was_plain in
    omega arith)
