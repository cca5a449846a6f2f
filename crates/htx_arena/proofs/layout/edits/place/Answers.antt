use Rattle.std.proofs.Common.{arith, ◌≡◌, ◌∙◌, ◌+◌, length, ap, subst, sym, List, ℕ}
use Rattle.htx_arena.specs.Space.Windows.{overwritten, desc_place, desc_bytes}
use Rattle.htx_arena.specs.Layout.Raw.{blocks_of, addrs_of}
use Rattle.htx_arena.specs.Layout.Sound.{IsSound}
use Rattle.htx_arena.specs.Layout.Steps.{listed_at, placed}
use Rattle.htx_arena.proofs.LayoutLemmas.RawLemmas.{shift_up, length-listed_at, IsSound-placed, blocks_of-placed, addrs_of-placed, length-placed}
use Rattle.htx_arena.proofs.layout.edits.place.Goals as goal

pub put-requires-clause-small : goal.put-requires-clause-small
put-requires-clause-small c =
    let raw = c.args.space.now in
    let n = c.args.count in
    let i = c.args.at in
    let d = c.args.desc in
    let can = c.requires.can in
    let room = can.room in
    let small = c.requires.small in
    let now : c.set_descriptor.new.self ≡ listed_at raw n i d = c.set_descriptor.ensures ∙ ap (λ (s : List ℕ). overwritten s (desc_place s i) (desc_bytes d)) (c.shift.ensures ∙ shift_up raw n i can.within) in
    let long = ap length now ∙ length-listed_at raw n i d (omega arith) can.within in
    omega arith

pub returns : goal.returns
returns c =
    let raw = c.args.space.now in
    let n = c.args.count in
    let i = c.args.at in
    let d = c.args.desc in
    let piece = c.args.payload.now in
    let can = c.requires.can in
    let now : c.put.new.space ≡ placed raw n i d piece =
    c.put.ensures ∙ ap (λ (s : List ℕ). overwritten s d.addr piece) (c.set_descriptor.ensures ∙ ap (λ (s : List ℕ). overwritten s (desc_place s i) (desc_bytes d)) (c.shift.ensures ∙ shift_up raw n i can.within)) in
    record {
      blocks = ap (λ (s : List ℕ). blocks_of s (n + 1)) now ∙ blocks_of-placed raw n i d piece can;
      addrs = ap (λ (s : List ℕ). addrs_of s (n + 1)) now ∙ addrs_of-placed raw n i d piece can;
      sound = subst (λ (s : List ℕ). IsSound s (n + 1)) (sym now) (IsSound-placed raw n i d piece can);
      is = now;
      size = ap length now ∙ length-placed raw n i d piece can;
    }
