use Rattle.std.proofs.Common.{◌∙◌, ap, arith, ℕ}
use Rattle.htx_model.specs.Block.{payload_len}
use Rattle.htx_arena.specs.Layout.Addresses.{inserted}
use Rattle.htx_arena.proofs.LayoutLemmas.ReplaceLemmas.{end_len}
use Rattle.htx_arena.proofs.arena.Arena.insert_end.Goals as goal

pub put-requires-clause-fits : goal.put-requires-clause-fits
put-requires-clause-fits c =
    let long = ap payload_len c.end.ensures ∙ end_len c.args.kind c.requires.kind in
    let room = c.free.ensures.room in
    let under = c.if-free-lt9.false in
    omega arith

pub returns-clause-addrs : goal.returns-clause-addrs
returns-clause-addrs c = c.put.ensures.addrs ∙ ap (λ (k : ℕ). (inserted c.args.self.now c.args.at k).addrs) (ap payload_len c.end.ensures ∙ end_len c.args.kind c.requires.kind)

pub returns-clause-front : goal.returns-clause-front
returns-clause-front c = c.put.ensures.front ∙ ap (λ (k : ℕ). (inserted c.args.self.now c.args.at k).front) (ap payload_len c.end.ensures ∙ end_len c.args.kind c.requires.kind)
