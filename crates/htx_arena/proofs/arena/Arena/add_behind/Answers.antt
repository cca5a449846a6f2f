use Rattle.std.proofs.Common.{◌+◌, ◌∙◌, ap, sym, arith, refl, get_or, take}
use Rattle.htx_model.specs.Block.{payload_len}
use Rattle.htx_model.specs.Blocks.{block_at}
use Rattle.htx_model.proofs.PublicLaws.{append-set, overhead-data}
use Rattle.htx_arena.specs.Layout.Addresses.{Places, extended}
use Rattle.htx_arena.proofs.DataLemmas.{takes, appended-data}
use Rattle.htx_arena.proofs.arena.Arena.add_behind.Goals as goal

pub extend-requires : goal.extend-requires
extend-requires c =
    let over = overhead-data c.args.self.now.blocks c.args.at c.requires.last c.requires.«data» in
    let k_is = c.min-len.ensures in
    let q = takes c.args.self.now c.args.bytes.now 0 c.free.result c.min-len.result over c.free.ensures.room (omega arith) in
    let long = q.long in
    let not_none = c.if-len-eq0.false in
    let fits = q.fits (omega arith) in
    let last = c.requires.last in
    record { within = omega arith; «data» = c.requires.«data»; some = omega arith; fits = omega arith }

pub returns-then-len-eq0 : goal.returns-then-len-eq0
returns-then-len-eq0 c =
    let over = overhead-data c.args.self.now.blocks c.args.at c.requires.last c.requires.«data» in
    let k_is = c.min-len.ensures in
    let q = takes c.args.self.now c.args.bytes.now 0 c.free.result c.min-len.result over c.free.ensures.room (omega arith) in
    let none = c.if-len-eq0.true in
    let all = q.is in
    record { taken = omega arith; blocks = refl; size = refl; addrs = refl; front = refl }

pub returns : goal.returns
returns c =
    let i = c.args.at in
    let now = c.args.self.now in
    let over = overhead-data c.args.self.now.blocks c.args.at c.requires.last c.requires.«data» in
    let k_is = c.min-len.ensures in
    let q = takes c.args.self.now c.args.bytes.now 0 c.free.result c.min-len.result over c.free.ensures.room (omega arith) in
    let k = c.min-len.result in
    let not_none = c.if-len-eq0.false in
    let places = ap (extended now i (get_or now.addrs i 0 + payload_len (block_at now.blocks i))) q.long ∙ sym (appended-data now i k c.requires.last c.requires.«data» (omega arith)) in
    let r = c.extend.ensures in
    record {
      taken = q.is;
      blocks = r.blocks ∙ sym (append-set now.blocks i (take k c.args.bytes.now) c.requires.last c.requires.«data» (let long = q.long in omega arith));
      size = r.size;
      addrs = r.addrs ∙ ap (λ (p : Places). p.addrs) places;
      front = r.front ∙ ap (λ (p : Places). p.front) places;
    }
