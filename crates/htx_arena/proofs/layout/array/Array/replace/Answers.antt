use Rattle.std.proofs.Common.{◌≡◌, ◌∙◌, ap, sym, arith, List, length, set}
use Rattle.std.specs.Prelude.{insert, remove}
use Rattle.std.proofs.lemmas.List.Edits.{length-remove}
use Rattle.htx_model.specs.Block.{Block, payload_len}
use Rattle.htx_model.specs.Blocks.{load}
use Rattle.htx_model.proofs.PublicLaws.{load-remove}
use Rattle.htx_arena.specs.Layout.Contents.{Contents}
use Rattle.htx_arena.specs.Layout.Addresses.{Places, inserted}
use Rattle.htx_arena.proofs.LayoutLemmas.AddressLemmas.{replaced-shorter, replaced-longer}
use Rattle.htx_arena.proofs.LayoutLemmas.CarryLemmas.{insert-remove}
use Rattle.htx_arena.proofs.LayoutLemmas.CodeLemmas.{described}
use Rattle.htx_arena.proofs.layout.array.Array.replace.Goals as goal

pub rewrite-requires : goal.rewrite-requires
rewrite-requires c =
    let m = described c.args.new.now c.info.result.0 c.payload.result.now c.info.ensures c.payload.ensures in
    let len = m.len in
    let long = m.long in
    let new_len = c.len.ensures.len in
    let some = c.len.ensures.some in
    let old_len = c.payload_len.ensures.len in
    let shorter = c.if-len-payload_len.true in
    record { within = c.requires.within; shorter = omega arith; some = omega arith; len = omega arith; tells = m.tells }

pub add-requires : goal.add-requires
add-requires c =
    let now = c.args.self.now in
    let u = c.unlist.ensures in
    let count = ap length u.blocks in
    let less = length-remove now.blocks c.args.at c.requires.within in
    let weight = ap load u.blocks in
    let rest = load-remove now.blocks c.args.at c.requires.within in
    let size = u.size in
    let within = c.requires.within in
    let fits = c.requires.fits in
    record { within = omega arith; fits = omega arith }

pub returns-then-len-payload_len : goal.returns-then-len-payload_len
returns-then-len-payload_len c =
    let now = c.args.self.now in
    let m = described c.args.new.now c.info.result.0 c.payload.result.now c.info.ensures c.payload.ensures in
    let new_len = c.len.ensures.len in
    let old_len = c.payload_len.ensures.len in
    let shorter = c.if-len-payload_len.true in
    let places = replaced-shorter now c.args.at (payload_len c.args.new.now) (omega arith) in
    let r = c.rewrite.ensures in
    record { blocks = r.blocks ∙ ap (set now.blocks c.args.at) m.is; size = r.size; addrs = r.addrs ∙ sym (ap (λ (p : Places). p.addrs) places); front = r.front ∙ sym (ap (λ (p : Places). p.front) places) }

pub returns : goal.returns
returns c =
    let now = c.args.self.now in
    let i = c.args.at in
    let b = c.args.new.now in
    let u = c.unlist.ensures in
    let mid : c.unlist.new.self ≡ record { size = now.size; blocks = remove now.blocks i; addrs = remove now.addrs i; front = now.front } = λ j. record { size = u.size j; blocks = u.blocks j; addrs = u.addrs j; front = u.front j } in
    let new_len = c.len.ensures.len in
    let old_len = c.payload_len.ensures.len in
    let longer = c.if-len-payload_len.false in
    let places = ap (λ (s : Contents). inserted s i (payload_len b)) mid ∙ sym (replaced-longer now i (payload_len b) (omega arith)) in
    let r = c.add.ensures in
    record {
      blocks = r.blocks ∙ ap (λ (bs : List Block). insert bs i b) u.blocks ∙ insert-remove now.blocks i b c.requires.within;
      size = r.size ∙ u.size;
      addrs = r.addrs ∙ ap (λ (p : Places). p.addrs) places;
      front = r.front ∙ ap (λ (p : Places). p.front) places;
    }
