use Rattle.std.proofs.Common.{rules, ◌≡◌, ◌+◌, ◌≤◌, ◌<◌, ◌∙◌, ap, inl, inr, ℕ, List, drop, max, arith}
use Rattle.std.proofs.lemmas.Bool.{cases_eq}
use Rattle.std.proofs.lemmas.List.{drop_all}
use Rattle.std.proofs.lemmas.List.Sums.{sum_by-drop_more, sum_by-take-drop}
use Rattle.htx_model.specs.Block.{weight, payload_len, EndHeaders}
use Rattle.htx_model.specs.Blocks.{load, block_at}
use Rattle.htx_arena.specs.declared.space.space.Desc.{Desc}
use Rattle.htx_arena.specs.Space.Windows.{desc_at}
use Rattle.htx_arena.specs.Layout.Raw.{block_in, len_in, info_len, blocks_of}
use Rattle.htx_arena.specs.Layout.Sound.{IsTold, end_of}
use Rattle.htx_arena.proofs.LayoutLemmas.RawLemmas.{length-listed, get_or-listed}
use Rattle.htx_arena.proofs.layout.scan.weigh.Goals as goal

-- one block less is behind the next number
step : (raw : List ℕ) (n i : ℕ) → IsTold raw n → i < n → load (drop i (blocks_of raw n)) ≡ 8 + len_in raw i + load (drop (i + 1) (blocks_of raw n))
step raw n i told h =
    let count = length-listed (block_in raw) n in
    let more = sum_by-drop_more weight (blocks_of raw n) i EndHeaders (omega arith) in
    let block : block_at (blocks_of raw n) i ≡ block_in raw i = get_or-listed (block_in raw) n i EndHeaders h in
    let len : payload_len (block_at (blocks_of raw n) i) ≡ len_in raw i = ap payload_len block ∙ (told.told i h).len in
    omega arith

under : (raw : List ℕ) (n i : ℕ) → load (drop i (blocks_of raw n)) ≤ load (blocks_of raw n)
under raw n i = omega (arith, sum_by-take-drop weight (blocks_of raw n) i)

pub overflow_add-weight : goal.overflow_add-weight
overflow_add-weight c =
    let len = c.payload_len.ensures ∙ ap (λ (d : Desc). info_len d.info) c.descriptor.ensures in
    let s = step c.args.space.now c.args.count c.loop-i.i c.requires.told c.loop-i-test.true in
    let u = under c.args.space.now c.args.count c.loop-i.i in
    let most = c.requires.most in
    omega arith

pub overflow_add-weight-in-loop-i : goal.overflow_add-weight-in-loop-i
overflow_add-weight-in-loop-i c =
    let len = c.payload_len.ensures ∙ ap (λ (d : Desc). info_len d.info) c.descriptor.ensures in
    let s = step c.args.space.now c.args.count c.loop-i.i c.requires.told c.loop-i-test.true in
    let u = under c.args.space.now c.args.count c.args.from in
    let most = c.requires.most in
    let so_far = c.loop-i.invariant.weight in
    omega arith

pub loop-i-preserved : goal.loop-i-preserved
loop-i-preserved c =
    let raw = c.args.space.now in
    let len = c.payload_len.ensures ∙ ap (λ (d : Desc). info_len d.info) c.descriptor.ensures in
    let s = step raw c.args.count c.loop-i.i c.requires.told c.loop-i-test.true in
    let so_far = c.loop-i.invariant.weight in
    let most : c.max-end.result ≡ max c.loop-i.end c.end_at.result = search rules in
    let told = (c.requires.told.told c.loop-i.i c.loop-i-test.true).len in
    let value = c.end_at.ensures.value in
    record {
      weight = omega arith;
      up_to = λ j from to. elim (cases_eq j c.loop-i.i) [
        | inl e ↦ let same = ap (λ (k : ℕ). end_of (desc_at raw k)) e in omega arith
        | inr ne ↦ let below = c.loop-i.invariant.up_to j from (omega arith) in omega arith
      ];
    }

pub returns : goal.returns
returns c =
    let count = length-listed (block_in c.args.space.now) c.args.count in
    let ended = c.loop-i-test.false in
    let none : load (drop c.loop-i.i (blocks_of c.args.space.now c.args.count)) ≡ 0 = ap load (drop_all c.loop-i.i (blocks_of c.args.space.now c.args.count) (omega arith)) in
    let so_far = c.loop-i.invariant.weight in
    record { weight = omega arith; up_to = λ j from to. c.loop-i.invariant.up_to j from (omega arith) }
