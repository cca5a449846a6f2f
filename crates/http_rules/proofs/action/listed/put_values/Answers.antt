use Rattle.std.proofs.Common.{◌≡◌, ℕ, List, false, refl, sym, ◌∙◌, subst}
use Rattle.px_bytes.specs.Values.{placed_values}
use Rattle.http_rules.specs.declared.action.joining.Joined.TheVariants.{Held}
use Rattle.http_rules.proofs.ActionLemmas.Spread.{Spread, Joining, spread, text_at, begin_joining, next_joining, stop_joining}
use Rattle.http_rules.proofs.ActionLemmas.Joining.{recapped}
use Rattle.http_rules.specs.Action.Replacing.{are_short}
use Rattle.http_rules.proofs.action.listed.put_values.Goals as goal

pub loop-at-init : goal.loop-at-init
loop-at-init c =
    let items : c.into_iter-at-iterator.result ≡ placed_values c.args.field.now = cc (c.into_iter-at-iterator.ensures.into_iter_gives, c.value_indices-at-items.ensures.placed) in
    record {
      spread = subst (λ (ps : List (ℕ × List ℕ)). Spread c.args.field.now 0 ps) (sym items) (spread c.args.field.now c.value_indices-at-items.ensures.lie);
      joining = begin_joining c.clear.new.self.cap c.args.by.pat.now c.args.by.text.now c.args.field.now c.clear.new.self.bytes c.into_iter-at-iterator.result c.clear.ensures.bytes items;
      text = refl;
      cap = refl;
    }

pub loop-at-preserved : goal.loop-at-preserved
loop-at-preserved c =
    let pat = c.args.by.pat.now in
    let template = c.args.by.text.now in
    let size = c.clear.new.self.cap in
    let cap = c.loop-at.into.cap in
    let value = c.in-Some.value.now in
    let before = subst (λ (ps : List (ℕ × List ℕ)). Joining size pat template c.args.field.now c.loop-at.from ps c.loop-at.so_far c.loop-at.into.bytes) c.in-Some.ensures.steps c.loop-at.invariant.joining in
    let caps : c.loop-at.text.cap ≡ cap = c.loop-at.invariant.text ∙ c.requires ∙ sym c.clear.ensures.cap ∙ sym c.loop-at.invariant.cap in
    let text = text_at c.loop-at.text.cap cap pat template value c.fill_value.new.into.bytes c.bytes.result.now c.in_ok-filled.filled caps c.bytes.ensures.bytes c.in_ok-filled.ensures.held in
    let joins = recapped size cap before.pieces c.loop-at.into.bytes c.loop-at.so_far c.loop-at.invariant.cap before.joins in
    record {
      spread = (subst (λ (ps : List (ℕ × List ℕ)). Spread c.args.field.now c.loop-at.from ps) c.in-Some.ensures.steps c.loop-at.invariant.spread).2;
      joining =
          next_joining size cap pat template c.args.field.now _ c.loop-at.from (c.in-Some.at, value) c.next.new.self c.loop-at.so_far c.in-Some-put_filled.joined c.loop-at.into.bytes c.put_filled.new.into.bytes c.put_filled.result before refl c.loop-at.invariant.cap c.in-Some-put_filled.is
          (c.put_filled.ensures.put pat template before.pieces text joins);
      text = c.in_ok-filled.ensures.cap ∙ c.loop-at.invariant.text;
      cap = c.put_filled.ensures.cap ∙ c.loop-at.invariant.cap;
    }

pub returns-in-None-put_filled-clause-joined : goal.returns-in-None-put_filled-clause-joined
returns-in-None-put_filled-clause-joined c =
    let pat = c.args.by.pat.now in
    let template = c.args.by.text.now in
    let size = c.clear.new.self.cap in
    let cap = c.loop-at.into.cap in
    let value = c.in-Some.value.now in
    let before = subst (λ (ps : List (ℕ × List ℕ)). Joining size pat template c.args.field.now c.loop-at.from ps c.loop-at.so_far c.loop-at.into.bytes) c.in-Some.ensures.steps c.loop-at.invariant.joining in
    let caps : c.loop-at.text.cap ≡ cap = c.loop-at.invariant.text ∙ c.requires ∙ sym c.clear.ensures.cap ∙ sym c.loop-at.invariant.cap in
    let text = text_at c.loop-at.text.cap cap pat template value c.fill_value.new.into.bytes c.bytes.result.now c.in_ok-filled.filled caps c.bytes.ensures.bytes c.in_ok-filled.ensures.held in
    let joins = recapped size cap before.pieces c.loop-at.into.bytes c.loop-at.so_far c.loop-at.invariant.cap before.joins in
    subst (λ (n : ℕ). are_short n pat template c.args.field.now ≡ false) c.clear.ensures.cap
    (stop_joining size cap pat template c.args.field.now _ c.loop-at.from (c.in-Some.at, value) c.next.new.self c.loop-at.so_far c.loop-at.into.bytes c.put_filled.new.into.bytes c.put_filled.result before c.loop-at.invariant.cap c.in-None-put_filled.is
    (c.put_filled.ensures.put pat template before.pieces text joins))
