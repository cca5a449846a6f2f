use Rattle.std.proofs.Common.{◌+◌, ◌∙◌, ap, arith, refl, ℕ, set}
use Rattle.htx_model.specs.Block.{block, kind_of, payload_len}
use Rattle.htx_model.specs.declared.Kind.{Kind}
use Rattle.htx_model.specs.Blocks.{block_at}
use Rattle.htx_arena.specs.Layout.Addresses.{replaced}
use Rattle.htx_arena.proofs.LayoutLemmas.ReplaceLemmas.{line_len}
use Rattle.htx_arena.proofs.ChangeLemmas.{set-fits}
use Rattle.htx_arena.proofs.DataLemmas.{not_true}
use Rattle.htx_arena.proofs.arena.Arena.replace_line.Goals.{then-a-most-via-then-a-most, then-a-most-via-else-a-most+then-b-most, then-a-most-via-else-a-most+else-b-most+then-c-most}
use Rattle.htx_arena.proofs.arena.Arena.replace_line.Goals as goal

pub returns-then-a-most-clause-fits : goal.returns-then-a-most-clause-fits
returns-then-a-most-clause-fits c =
    let q = set-fits c.args.self.now.size c.args.self.now.blocks c.args.at c.free.result _ _ c.requires.within c.free.ensures.room (line_len (kind_of (block_at c.args.self.now.blocks c.args.at)) c.args.a.now c.args.b.now c.args.c.now c.requires.line) in
    let old_len = c.payload_len.ensures.len in (
      λ h. absurd (not_true h),
      λ fits.
          let all = q.0 fits in
          elim c.then-a-most.branch [
            | then-a-most-via-then-a-most v ↦ let over = v.if-a-most.true in absurd (omega arith)
            | then-a-most-via-else-a-most+then-b-most v ↦ let over = v.if-b-most.true in absurd (omega arith)
            | then-a-most-via-else-a-most+else-b-most+then-c-most v ↦ let over = v.if-c-most.true in absurd (omega arith)
          ],
    )

pub returns-then-len-most-clause-fits : goal.returns-then-len-most-clause-fits
returns-then-len-most-clause-fits c =
    let q = set-fits c.args.self.now.size c.args.self.now.blocks c.args.at c.free.result _ _ c.requires.within c.free.ensures.room (line_len (kind_of (block_at c.args.self.now.blocks c.args.at)) c.args.a.now c.args.b.now c.args.c.now c.requires.line) in
    let old_len = c.payload_len.ensures.len in
    let over = c.if-len-most.true in
    (λ h. absurd (not_true h), λ fits. let all = q.0 fits in absurd (omega arith))

pub set-requires-clause-fits : goal.set-requires-clause-fits
set-requires-clause-fits c =
    let long = ap payload_len c.line-line.ensures ∙ ap (λ (k : Kind). payload_len (block k c.args.a.now c.args.b.now c.args.c.now)) c.kind.ensures ∙ line_len (kind_of (block_at c.args.self.now.blocks c.args.at)) c.args.a.now c.args.b.now c.args.c.now c.requires.line in
    let old_len = c.payload_len.ensures.len in
    let room = c.free.ensures.room in
    let under = c.if-len-most.false in
    omega arith

pub returns : goal.returns
returns c =
    let s = c.args.self.now in
    let i = c.args.at in
    let q = set-fits c.args.self.now.size c.args.self.now.blocks c.args.at c.free.result _ _ c.requires.within c.free.ensures.room (line_len (kind_of (block_at c.args.self.now.blocks c.args.at)) c.args.a.now c.args.b.now c.args.c.now c.requires.line) in
    let long = ap payload_len c.line-line.ensures ∙ ap (λ (k : Kind). payload_len (block k c.args.a.now c.args.b.now c.args.c.now)) c.kind.ensures ∙ line_len (kind_of (block_at c.args.self.now.blocks c.args.at)) c.args.a.now c.args.b.now c.args.c.now c.requires.line in
    let old_len = c.payload_len.ensures.len in
    let under = c.if-len-most.false in
    let r = c.set.ensures in
    record {
      ok = r.blocks ∙ ap (set s.blocks i) (c.line-line.ensures ∙ ap (λ (k : Kind). block k c.args.a.now c.args.b.now c.args.c.now) c.kind.ensures);
      fits = (λ h. q.1 (omega arith), λ h. refl);
      full = tt;
      size = r.size;
      addrs = r.addrs ∙ ap (λ (k : ℕ). (replaced s i k).addrs) long;
      front = r.front ∙ ap (λ (k : ℕ). (replaced s i k).front) long;
    }
