use Rattle.std.proofs.Common.{◌∙◌, ap, sym, arith}
use Rattle.htx_model.specs.Block.{payload_len}
use Rattle.htx_model.specs.Blocks.{block_at}
use Rattle.htx_model.proofs.PublicLaws.{data_is, cut-set, cut-remove}
use Rattle.htx_arena.specs.Layout.Addresses.{Places}
use Rattle.htx_arena.proofs.DataLemmas.{cut_to-part, cut_to-all}
use Rattle.htx_arena.proofs.arena.Arena.cut_front.Goals as goal

pub cut-requires : goal.cut-requires
cut-requires c =
    let long = ap payload_len (data_is (block_at c.args.self.now.blocks c.args.at) c.requires.kind) in
    let len = c.payload_len.ensures.len in
    let part = c.if-n-payload_len.true in
    record { within = c.requires.within; kind = c.requires.kind; part = omega arith }

pub returns-then-n-payload_len : goal.returns-then-n-payload_len
returns-then-n-payload_len c =
    let now = c.args.self.now in
    let i = c.args.at in
    let long = ap payload_len (data_is (block_at now.blocks i) c.requires.kind) in
    let len = c.payload_len.ensures.len in
    let part = c.if-n-payload_len.true in
    let places = cut_to-part now i c.args.n (omega arith) in
    let r = c.cut.ensures in
    record {
      blocks = r.blocks ∙ sym (cut-set now.blocks i c.args.n c.requires.within c.requires.kind (omega arith));
      size = r.size;
      addrs = r.addrs ∙ sym (ap (λ (p : Places). p.addrs) places);
      front = r.front ∙ sym (ap (λ (p : Places). p.front) places);
    }

pub returns : goal.returns
returns c =
    let now = c.args.self.now in
    let i = c.args.at in
    let long = ap payload_len (data_is (block_at now.blocks i) c.requires.kind) in
    let len = c.payload_len.ensures.len in
    let all = c.if-n-payload_len.false in
    let places = cut_to-all now i c.args.n (omega arith) in
    let r = c.remove.ensures in
    record {
      blocks = r.blocks ∙ sym (cut-remove now.blocks i c.args.n c.requires.within c.requires.kind (omega arith));
      size = r.size;
      addrs = r.addrs ∙ sym (ap (λ (p : Places). p.addrs) places);
      front = r.front ∙ sym (ap (λ (p : Places). p.front) places);
    }
