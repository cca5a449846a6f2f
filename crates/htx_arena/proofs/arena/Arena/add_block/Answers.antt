use Rattle.std.proofs.Common.{◌≡◌, ◌∙◌, ap, sym, arith, refl, take}
use Rattle.std.specs.Prelude.{insert}
use Rattle.htx_model.specs.Block.{payload_len}
use Rattle.htx_model.proofs.PublicLaws.{append-insert}
use Rattle.htx_arena.specs.Layout.Addresses.{Places, inserted, appended}
use Rattle.htx_arena.proofs.DataLemmas.{takes, appended-other}
use Rattle.htx_arena.proofs.arena.Arena.add_block.Goals as goal

pub data-requires : goal.data-requires
data-requires c =
    let less = c.saturating_sub.ensures in
    let k_is = c.min-len.ensures in
    let q = takes c.args.self.now c.args.bytes.now 8 c.free.result c.min-len.result c.requires c.free.ensures.room (omega arith) in
    let long = q.long in
    let not_none = c.if-len-eq0.false in
    let fits = q.fits (omega arith) in
    let most = c.free.ensures.small in
    record { some = omega arith; small = omega arith }

pub put-requires : goal.put-requires
put-requires c =
    let less = c.saturating_sub.ensures in
    let k_is = c.min-len.ensures in
    let q = takes c.args.self.now c.args.bytes.now 8 c.free.result c.min-len.result c.requires c.free.ensures.room (omega arith) in
    let is = ap payload_len c.«data».ensures in
    let last = c.len.ensures in
    let long = q.long in
    let not_none = c.if-len-eq0.false in
    let fits = q.fits (omega arith) in
    record { within = omega arith; fits = omega arith }

pub returns-then-len-eq0 : goal.returns-then-len-eq0
returns-then-len-eq0 c =
    let less = c.saturating_sub.ensures in
    let k_is = c.min-len.ensures in
    let q = takes c.args.self.now c.args.bytes.now 8 c.free.result c.min-len.result c.requires c.free.ensures.room (omega arith) in
    let none = c.if-len-eq0.true in
    let all = q.is in
    record { taken = omega arith; blocks = refl; size = refl; addrs = refl; front = refl }

pub returns : goal.returns
returns c =
    let now = c.args.self.now in
    let less = c.saturating_sub.ensures in
    let k_is = c.min-len.ensures in
    let q = takes c.args.self.now c.args.bytes.now 8 c.free.result c.min-len.result c.requires c.free.ensures.room (omega arith) in
    let not_none = c.if-len-eq0.false in
    let k = c.min-len.result in
    let is = c.«data».ensures in
    let places : inserted now c.len.result (payload_len c.«data».result) ≡ appended now k = (λ j. inserted now (c.len.ensures j) ((ap payload_len is ∙ q.long) j)) ∙ sym (appended-other now k c.requires (omega arith)) in
    let r = c.put.ensures in
    record {
      taken = q.is;
      blocks = r.blocks ∙ (λ j. insert now.blocks (c.len.ensures j) (is j)) ∙ sym (append-insert now.blocks (take k c.args.bytes.now) c.requires (let long = q.long in omega arith));
      size = r.size;
      addrs = r.addrs ∙ ap (λ (p : Places). p.addrs) places;
      front = r.front ∙ ap (λ (p : Places). p.front) places;
    }
