use Rattle.std.proofs.Common.{◌≡◌, ◌+◌, ◌∙◌, ap, sym, subst, arith, refl, length, set}
use Rattle.htx_model.specs.Block.{name_of}
use Rattle.htx_model.specs.Blocks.{block_at}
use Rattle.htx_arena.specs.Layout.Raw.{Tells, info_len}
use Rattle.htx_arena.specs.Layout.Addresses.{Places, placed_anew}
use Rattle.htx_arena.proofs.LayoutLemmas.AddressLemmas.{replaced-shorter, replaced-longer}
use Rattle.htx_arena.proofs.LayoutLemmas.ReplaceLemmas.{value_small, field_change, field_long, with_value_long}
use Rattle.htx_arena.proofs.layout.array.Array.replace_value.Goals as goal

pub overflow_cast-len : goal.overflow_cast-len
overflow_cast-len c = omega (arith, value_small c.args.self.now.size c.args.self.now.blocks c.args.at c.args.value.now c.info-old.ensures.small c.requires.within c.requires.field c.requires.fits)

pub field-info-requires : goal.field-info-requires
field-info-requires c =
    let q = field_change (block_at c.args.self.now.blocks c.args.at) c.info-old.result.0 c.args.value.now c.info-old.ensures.is c.requires.field (value_small c.args.self.now.size c.args.self.now.blocks c.args.at c.args.value.now c.info-old.ensures.small c.requires.within c.requires.field c.requires.fits) in
    let name = c.name_len-name.ensures.is ∙ q.name in
    let short = q.short in
    record { name = omega arith; value = omega (arith, value_small c.args.self.now.size c.args.self.now.blocks c.args.at c.args.value.now c.info-old.ensures.small c.requires.within c.requires.field c.requires.fits) }

pub field-kept-requires : goal.field-kept-requires
field-kept-requires c =
    let q = field_change (block_at c.args.self.now.blocks c.args.at) c.info-old.result.0 c.args.value.now c.info-old.ensures.is c.requires.field (value_small c.args.self.now.size c.args.self.now.blocks c.args.at c.args.value.now c.info-old.ensures.small c.requires.within c.requires.field c.requires.fits) in
    let name = c.name_len-name.ensures.is ∙ q.name in
    let short = q.short in
    record { name = omega arith; value = omega arith }

pub one-requires : goal.one-requires
one-requires c = omega (arith, value_small c.args.self.now.size c.args.self.now.blocks c.args.at c.args.value.now c.info-old.ensures.small c.requires.within c.requires.field c.requires.fits)

pub rewrite-requires : goal.rewrite-requires
rewrite-requires c =
    let b = block_at c.args.self.now.blocks c.args.at in
    let q = field_change (block_at c.args.self.now.blocks c.args.at) c.info-old.result.0 c.args.value.now c.info-old.ensures.is c.requires.field (value_small c.args.self.now.size c.args.self.now.blocks c.args.at c.args.value.now c.info-old.ensures.small c.requires.within c.requires.field c.requires.fits) in
    let name = c.name_len-name.ensures.is ∙ q.name in
    let m = q.made c.kind-kind.result c.field-info.result.0 c.name_len-name.result c.name_len-name.result c.one.result c.kind-kind.ensures c.name_len-name.ensures.is c.field-info.ensures name c.one.ensures in
    let made_len = m.len in
    let long = with_value_long b c.args.value.now c.requires.field in
    let some = q.some in
    let one_len = ap length c.one.ensures in
    let old_len = c.payload_len.ensures.len in
    let shorter = c.if-name-len.true in
    record { within = c.requires.within; shorter = omega arith; some = omega arith; len = omega arith; tells = m.tells }

pub returns-then-name-len : goal.returns-then-name-len
returns-then-name-len c =
    let now = c.args.self.now in
    let i = c.args.at in
    let q = field_change (block_at c.args.self.now.blocks c.args.at) c.info-old.result.0 c.args.value.now c.info-old.ensures.is c.requires.field (value_small c.args.self.now.size c.args.self.now.blocks c.args.at c.args.value.now c.info-old.ensures.small c.requires.within c.requires.field c.requires.fits) in
    let name = c.name_len-name.ensures.is ∙ q.name in
    let m = q.made c.kind-kind.result c.field-info.result.0 c.name_len-name.result c.name_len-name.result c.one.result c.kind-kind.ensures c.name_len-name.ensures.is c.field-info.ensures name c.one.ensures in
    let old_len = c.payload_len.ensures.len in
    let shorter = c.if-name-len.true in
    let places = replaced-shorter now i (length (name_of (block_at now.blocks i)) + length c.args.value.now) (omega arith) in
    let r = c.rewrite.ensures in
    record { blocks = r.blocks ∙ ap (set now.blocks i) m.is; size = r.size; addrs = r.addrs ∙ sym (ap (λ (p : Places). p.addrs) places); front = r.front ∙ sym (ap (λ (p : Places). p.front) places) }

pub extend_anew-requires : goal.extend_anew-requires
extend_anew-requires c =
    let b = block_at c.args.self.now.blocks c.args.at in
    let q = field_change (block_at c.args.self.now.blocks c.args.at) c.info-old.result.0 c.args.value.now c.info-old.ensures.is c.requires.field (value_small c.args.self.now.size c.args.self.now.blocks c.args.at c.args.value.now c.info-old.ensures.small c.requires.within c.requires.field c.requires.fits) in
    let kept = c.field-kept.result.0 in
    let mk = q.kept c.kind-kind.result kept c.name_len-name.result c.kind-kind.ensures c.name_len-name.ensures.is c.field-kept.ensures in
    let kept_len : info_len kept ≡ length (name_of b) = mk.len ∙ q.bare in
    let m = q.made c.kind-kind.result c.field-info.result.0 c.name_len-name.result (info_len kept) c.args.value.now c.kind-kind.ensures c.name_len-name.ensures.is c.field-info.ensures kept_len refl in
    let name = c.name_len-name.ensures.is ∙ q.name in
    let made_len = m.len in
    let long = with_value_long b c.args.value.now c.requires.field in
    let all = field_long b c.requires.field in
    let some = q.some in
    let old_len = c.payload_len.ensures.len in
    let longer = c.if-name-len.false in
    let fits = c.requires.fits in
    record {
      within = c.requires.within;
      some = omega arith;
      part = omega arith;
      longer = omega arith;
      kept_tells = subst (Tells kept) (sym (q.named (info_len kept) kept_len)) mk.tells;
      len = omega arith;
      tells = m.tells;
      fits = omega arith;
    }

pub returns : goal.returns
returns c =
    let now = c.args.self.now in
    let i = c.args.at in
    let b = block_at now.blocks i in
    let q = field_change (block_at c.args.self.now.blocks c.args.at) c.info-old.result.0 c.args.value.now c.info-old.ensures.is c.requires.field (value_small c.args.self.now.size c.args.self.now.blocks c.args.at c.args.value.now c.info-old.ensures.small c.requires.within c.requires.field c.requires.fits) in
    let kept = c.field-kept.result.0 in
    let mk = q.kept c.kind-kind.result kept c.name_len-name.result c.kind-kind.ensures c.name_len-name.ensures.is c.field-kept.ensures in
    let kept_len : info_len kept ≡ length (name_of b) = mk.len ∙ q.bare in
    let m = q.made c.kind-kind.result c.field-info.result.0 c.name_len-name.result (info_len kept) c.args.value.now c.kind-kind.ensures c.name_len-name.ensures.is c.field-info.ensures kept_len refl in
    let name = c.name_len-name.ensures.is ∙ q.name in
    let old_len = c.payload_len.ensures.len in
    let longer = c.if-name-len.false in
    let places = ap (placed_anew now i) (m.len ∙ with_value_long b c.args.value.now c.requires.field) ∙ sym (replaced-longer now i (length (name_of b) + length c.args.value.now) (omega arith)) in
    let r = c.extend_anew.ensures in
    record { blocks = r.blocks ∙ ap (set now.blocks i) m.is; size = r.size; addrs = r.addrs ∙ ap (λ (p : Places). p.addrs) places; front = r.front ∙ ap (λ (p : Places). p.front) places }
