-- A net's links that ask an application, by what the net below does.
use Rattle.std.proofs.Common.{◌≡◌, ℕ, ◌+◌, ◌-◌, ◌≤◌, ◌==◌, Bool, not, List, [], ◌∷◌, ◌++◌, length, take, drop, refl, sym, ap, subst, ◌∙◌, arith}
use Rattle.std.specs.Prelude.{Option, Some, None, option_map, is_some}
use Rattle.std.proofs.lemmas.List.{append_assoc, length-append, length-drop, take-append-le, drop-append-le}
use Rattle.px_link.specs.Link.{Seen, Manner, AsItIs, PassesOn, AsksBy}
use Rattle.px_link.specs.Net.{Kept, NetSeen, Keeps, KeepsMore, kept_link, has_failed}
use Rattle.fcgi_link.specs.declared.exchange.Exchange.{Exchange}
use Rattle.fcgi_link.specs.declared.note.Note.{Note}
use Rattle.fcgi_link.specs.declared.responder.Responder.{Responder}
use Rattle.fcgi_link.specs.Exchange.{AppLinkSeen, seen_over, WroteOver, link_over, LinkWrote, note_of}
use Rattle.fcgi_link.specs.Exchange as exchange
use Rattle.fcgi_link.specs.Asked.{answers_through}
use Rattle.fcgi_link.specs.Nets.{asking_some, noted, each_noted, kept_noted, HaveNotes, with_notes, notes_with}

-- ---- notes of kept links

each_more : (kept : List Kept) (notes : List (Option Note)) (one : Kept) (own : Option Note) → length kept ≡ length notes → each_noted (kept ++ one ∷ []) (notes ++ own ∷ []) ≡ each_noted kept notes ++ noted own one ∷ []
each_more [] [] one own e = refl
each_more [] (n ∷ notes) one own e = absurd (omega (arith, e))
each_more (k ∷ kept) [] one own e = absurd (omega (arith, e))
each_more (k ∷ kept) (n ∷ notes) one own e = ap (λ (l : List Kept). noted n k ∷ l) (each_more kept notes one own (omega (arith, e)))

at_the_end : (before : ℕ) (kept : List Kept) (notes : List (Option Note)) (one : Kept) (own : Option Note) → before + length notes ≡ length kept
    → take before (kept ++ one ∷ []) ++ each_noted (drop before (kept ++ one ∷ [])) (notes ++ own ∷ []) ≡ (take before kept ++ each_noted (drop before kept) notes) ++ noted own one ∷ []
at_the_end before kept notes one own e =
    let rest : length (drop before kept) ≡ length notes = omega (arith, length-drop before kept, e) in
    ap (λ (l : List Kept). l ++ each_noted (drop before (kept ++ one ∷ [])) (notes ++ own ∷ [])) (take-append-le before kept (one ∷ []) (omega (arith, e)))
    ∙ ap (λ (l : List Kept). take before kept ++ each_noted l (notes ++ own ∷ [])) (drop-append-le before kept (one ∷ []) (omega (arith, e)))
    ∙ ap (λ (l : List Kept). take before kept ++ l) (each_more (drop before kept) notes one own rest)
    ∙ sym (append_assoc (take before kept) (each_noted (drop before kept) notes) (noted own one ∷ []))

kept_more : (kept : List Kept) (notes : List (Option Note)) (one : Kept) (own : Option Note) → length notes ≤ length kept
    → kept_noted (notes ++ own ∷ []) (kept ++ one ∷ []) ≡ kept_noted notes kept ++ noted own one ∷ []
kept_more kept notes one own within =
    let before : ℕ = length kept - length notes in
    let same : length (kept ++ one ∷ []) - length (notes ++ own ∷ []) ≡ before = omega (arith, length-append kept (one ∷ []), length-append notes (own ∷ [])) in
    ap (λ (n : ℕ). take n (kept ++ one ∷ []) ++ each_noted (drop n (kept ++ one ∷ [])) (notes ++ own ∷ [])) same
    ∙ at_the_end before kept notes one own (omega (arith, within))

-- ---- notes where kept links are told, and where they aren't

pub as_noted : (notes : List (Option Note)) (own : Option Note) (kept : Option (List Kept)) → option_map (kept_noted (notes ++ own ∷ [])) kept ≡ option_map (kept_noted (notes_with (is_some kept) notes own)) kept
as_noted notes own None = refl
as_noted notes own (Some kept) = refl

-- ---- a link that was kept

noted_link : (one : Option Exchange) (below : Seen) (bytes : List ℕ) → noted (note_of one) (kept_link below bytes) ≡ kept_link (seen_over one below) bytes
noted_link None below bytes = refl
noted_link (Some one) below bytes = refl

as_it_is : (manner : Manner) (failed : Bool) (bytes text : List ℕ) → manner ≡ AsItIs → PassesOn manner failed bytes text → text ≡ bytes
as_it_is manner failed bytes text e h = subst (λ (m : Manner). PassesOn m failed bytes text) e h

passes_over : (one : Option Exchange) (below : Seen) (wrote : List ℕ → Type 0) (bytes : List ℕ) → exchange.IsOver one below.manner → ((text : List ℕ) → wrote text → PassesOn below.manner (has_failed below) bytes text)
    → (text : List ℕ) → WroteOver one wrote text → PassesOn (seen_over one below).manner (has_failed (seen_over one below)) bytes text
passes_over None below wrote bytes over p text h = p text h
passes_over (Some one) below wrote bytes over p text h =
    let same : h.given ≡ bytes = as_it_is below.manner (has_failed below) bytes h.given over (p h.given h.written) in
    subst (λ (l : List ℕ). AsksBy one.asks.translating.application (not (one.asks.faults == 0)) l text) same h.passed

more_over : (one : Option Exchange) (notes : List (Option Note)) (below : Seen) (wrote : List ℕ → Type 0) (kept new : Option (List Kept)) → exchange.IsOver one below.manner → HaveNotes notes kept
    → KeepsMore kept new wrote below → KeepsMore (option_map (kept_noted notes) kept) (option_map (kept_noted (notes ++ note_of one ∷ [])) new) (WroteOver one wrote) (seen_over one below)
more_over one notes below wrote None new over within k = ap (option_map (kept_noted (notes ++ note_of one ∷ []))) k
more_over one notes below wrote (Some kept) new over within k = (
  k.0,
  ap (option_map (kept_noted (notes ++ note_of one ∷ []))) k.1
      ∙ ap Some
      (kept_more kept notes (kept_link below k.0) (note_of one) within
      ∙ ap (λ (last : Kept). kept_noted notes kept ++ last ∷ []) (noted_link one below k.0)),
  passes_over one below wrote k.0 over k.2,
)

pub keeps_over : {L : Type 0} (seen : L → Seen) (wrote : L → List ℕ → Type 0) (responder : Option Responder) (notes : List (Option Note)) (old new : NetSeen) (link : AppLinkSeen L)
    → exchange.IsOver link.exchange (seen link.inner).manner → HaveNotes notes old.kept → Keeps (wrote link.inner) old new (seen link.inner)
    → Keeps (LinkWrote wrote link) (asking_some responder (with_notes notes old)) (asking_some responder (with_notes (notes ++ note_of link.exchange ∷ []) new)) (link_over seen link)
keeps_over seen wrote None notes old new link over within k = record {
  kept = more_over link.exchange notes (seen link.inner) (wrote link.inner) old.kept new.kept over within k.kept;
  lent = k.lent;
  accepts = k.accepts;
  answers = k.answers;
  manner = k.manner;
  plain = k.plain;
  bound = k.bound;
  dialled = k.dialled;
  binds = k.binds;
  connects = k.connects;
}
keeps_over seen wrote (Some responder) notes old new link over within k = record {
  kept = more_over link.exchange notes (seen link.inner) (wrote link.inner) old.kept new.kept over within k.kept;
  lent = k.lent;
  accepts = k.accepts;
  answers = ap (answers_through responder.limit) k.answers;
  manner = refl;
  plain = k.plain;
  bound = k.bound;
  dialled = k.dialled;
  binds = k.binds;
  connects = k.connects;
}
