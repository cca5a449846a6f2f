-- A net's links behind a header, by what the net below does.
use Rattle.std.proofs.Common.{◌≡◌, ℕ, ◌≤◌, ◌==◌, inl, inr, true, false, Bool, cond, List, [], ◌∷◌, ◌++◌, length, take, zero, suc, refl, sym, ap, subst, ◌∙◌, arith}
use Rattle.std.specs.Prelude.{Option, Some, None, Err}
use Rattle.std.proofs.lemmas.Bool.{cases_Bool}
use Rattle.px_link.specs.declared.fault.Fault.{Fault}
use Rattle.px_link.specs.declared.fault.Fault.TheVariants as faults
use Rattle.px_link.specs.Link.{Seen, Takes, Untold, UpTo, All, Manner, AsItIs, Behind, PassesOn, takes_behind}
use Rattle.px_link.specs.Net.{Coming, Kept, NetSeen, IsFirst, Connected, Connects, Refused, NoMemory, Keeps, KeepsMore, Place, new_link, has_failed}
use Rattle.px_peer.specs.declared.Pair.{Pair}
use Rattle.px_proxyproto.specs.declared.heading.Heading.{Heading}
use Rattle.px_proxyproto.specs.Nets.{manner_of, headed}
use Rattle.px_proxyproto.specs.Sending.{SendLinkSeen, manner_behind, seen_behind, link_behind, begun, WroteBehind, LinkWrote}
use Rattle.px_proxyproto.specs.Texts.{header_of, text_of, binary_of, addresses_text, ports_text}
use Rattle.px_proxyproto.specs.Lines.{family_word, line_end}

-- ---- a link that was handed out

no_fewer : (takes : Takes) → takes_behind 0 takes ≡ takes
no_fewer Untold = refl
no_fewer (UpTo n) = ap (λ (k : ℕ). UpTo k) (omega arith)
no_fewer All = refl

no_header : (seen : Seen) → seen_behind [] seen ≡ seen
no_header seen = ap (λ (takes : Takes). let other : Seen = record seen { takes = takes } in other) (no_fewer seen.takes)

-- the bytes aren't none
abbrev IsSome : List ℕ → Type 0
IsSome bytes = (byte : ℕ) × (rest : List ℕ) × (bytes ≡ byte ∷ rest)

text_some : (pair : Option Pair) → IsSome (text_of pair)
text_some None = (_, _, refl)
text_some (Some pair) =
    elim (cases_Bool pair.src.v6) [
      | inl six ↦ subst (λ (v6 : Bool). IsSome ((family_word v6 ++ (addresses_text pair ++ ports_text pair)) ++ line_end)) (sym six) (_, _, refl)
      | inr four ↦ subst (λ (v6 : Bool). IsSome ((family_word v6 ++ (addresses_text pair ++ ports_text pair)) ++ line_end)) (sym four) (_, _, refl)
    ]

binary_some : (pair : Option Pair) → IsSome (binary_of pair)
binary_some None = (_, _, refl)
binary_some (Some pair) = (_, _, refl)

either_some : (b : Bool) (x y : List ℕ) → IsSome x → IsSome y → IsSome (cond b x y)
either_some true x y h k = h
either_some false x y h k = k

header_some : (version : ℕ) (pair : Option Pair) → IsSome (header_of version pair)
header_some version pair = either_some (version == 2) (binary_of pair) (text_of pair) (binary_some pair) (text_some pair)

manner_some : (header : List ℕ) → IsSome header → manner_behind header AsItIs ≡ Behind header AsItIs
manner_some header h = subst (λ (l : List ℕ). manner_behind l AsItIs ≡ Behind l AsItIs) (sym h.2) refl

header_manner : (heading : Heading) → manner_behind (header_of heading.version heading.pair) AsItIs ≡ Behind (header_of heading.version heading.pair) AsItIs
header_manner heading = manner_some _ (header_some heading.version heading.pair)

begun_manner : {L : Type 0} (seen : L → Seen) (inner : L) (heading : Option Heading) → (seen inner).manner ≡ AsItIs → (link_behind seen (begun inner heading)).manner ≡ manner_of heading
begun_manner seen inner None e = e
begun_manner seen inner (Some heading) e = ap (manner_behind (header_of heading.version heading.pair)) e ∙ header_manner heading

begun_new : {L : Type 0} (seen : L → Seen) (inner : L) (heading : Option Heading) (coming : Coming) → seen inner ≡ new_link AsItIs coming → link_behind seen (begun inner heading) ≡ new_link (manner_of heading) coming
begun_new seen inner None coming e = no_header (seen inner) ∙ e
begun_new seen inner (Some heading) coming e =
    let header = header_of heading.version heading.pair in
    ap (seen_behind header) e
    ∙ ap (λ (manner : Manner). let link : Seen = record (new_link (Behind header AsItIs) coming) { manner = manner } in link) (header_manner heading)

begun_unwritten : {L : Type 0} (wrote : L → List ℕ → Type 0) (inner : L) (heading : Option Heading) → wrote inner [] → LinkWrote wrote (begun inner heading) []
begun_unwritten wrote inner None h = record { first = λ _. refl; below = h }
begun_unwritten wrote inner (Some heading) h = record { first = λ _. refl; below = h }

first_weaker : (old new : Option (List (Option Coming))) (P Q : Coming → Type 0) → ((coming : Coming) → P coming → Q coming) → IsFirst old new P → IsFirst old new Q
first_weaker None new P Q f h = h
first_weaker (Some []) new P Q f h = h
first_weaker (Some (None ∷ later)) new P Q f h = h
first_weaker (Some (Some coming ∷ later)) new P Q f h = (h.0, f coming h.1)

pub connected_behind : {L : Type 0} (seen : L → Seen) (wrote : L → List ℕ → Type 0) (heading : Option Heading) (old new : NetSeen) (to : Place) (inner : L) → old.manner ≡ AsItIs
    → Connected old new to (seen inner) (wrote inner [])
    → Connected (headed heading old) (headed heading new) to (link_behind seen (begun inner heading)) (LinkWrote wrote (begun inner heading) [])
connected_behind seen wrote heading old new to inner is a = record {
  first = first_weaker old.answers new.answers _ _ (λ coming h. (
    begun_new seen inner heading coming (h.0 ∙ ap (λ (manner : Manner). new_link manner coming) is),
    begun_unwritten wrote inner heading h.1,
  )) a.first;
  passes_on = begun_manner seen inner heading (a.passes_on ∙ is);
  accepts = a.accepts;
  kept = a.kept;
  manner = refl;
  plain = a.plain;
  lent = a.lent;
  below = a.below;
  bound = a.bound;
  dialled = a.dialled;
  binds = a.binds;
  connects = a.connects;
}

losing : (heading : Option Heading) (old new : NetSeen) (to : Place) → Refused old new to → Refused (headed heading old) (headed heading new) to
losing heading old new to r = record {
  answers = r.answers;
  fails = r.fails;
  accepts = r.accepts;
  kept = r.kept;
  manner = refl;
  plain = r.plain;
  lent = r.lent;
  bound = r.bound;
  dialled = r.dialled;
  rose = r.rose;
  never_falls = r.never_falls;
  binds = r.binds;
}

unroomed : (heading : Option Heading) (old new : NetSeen) (to : Place) → NoMemory old new to → NoMemory (headed heading old) (headed heading new) to
unroomed heading old new to r = record {
  answers = r.answers;
  accepts = r.accepts;
  kept = r.kept;
  manner = refl;
  plain = r.plain;
  lent = r.lent;
  bound = r.bound;
  dialled = r.dialled;
  binds = r.binds;
  connects = r.connects;
}

pub not_connected : (fault : Fault) {L : Type 0} (seen : L → Seen) (wrote : L → List ℕ → Type 0) (heading : Option Heading) (old new : NetSeen) (to : Place) → Connects seen wrote old new to (Err fault)
    → Connects (link_behind seen) (LinkWrote wrote) (headed heading old) (headed heading new) to (Err fault)
not_connected faults.Failed seen wrote heading old new to r = losing heading old new to r
not_connected faults.OutOfMemory seen wrote heading old new to r = unroomed heading old new to r

-- ---- a link that was kept

no_front : (sent : ℕ) (text : List ℕ) → take sent [] ++ text ≡ text
no_front zero text = refl
no_front (suc sent) text = refl

passes_behind : (header : List ℕ) (sent : ℕ) (manner : Manner) (failed : Bool) (wrote : List ℕ → Type 0) (bytes : List ℕ) → sent ≤ length header → ((text : List ℕ) → wrote text → PassesOn manner failed bytes text)
    → (text : List ℕ) → WroteBehind header sent wrote text → PassesOn (manner_behind header manner) failed bytes text
passes_behind [] sent manner failed wrote bytes within passes text h = subst (λ (t : List ℕ). PassesOn manner failed bytes t) (no_front sent text) (passes _ h.below)
passes_behind (byte ∷ header) sent manner failed wrote bytes within passes text h = record { sent = sent; within = within; first = h.first; whole = passes _ h.below }

more_behind : (header : List ℕ) (sent : ℕ) (wrote : List ℕ → Type 0) (link : Seen) (kept new : Option (List Kept)) → sent ≤ length header → KeepsMore kept new wrote link
    → KeepsMore kept new (λ text. WroteBehind header sent wrote text) (seen_behind header link)
more_behind header sent wrote link None new within k = k
more_behind header sent wrote link (Some kept) new within k = (k.0, k.1, passes_behind header sent link.manner (has_failed link) wrote k.0 within k.2)

pub keeps_behind : {L : Type 0} (seen : L → Seen) (wrote : L → List ℕ → Type 0) (heading : Option Heading) (old new : NetSeen) (link : SendLinkSeen L) → link.sent ≤ length link.header
    → Keeps (wrote link.inner) old new (seen link.inner) → Keeps (LinkWrote wrote link) (headed heading old) (headed heading new) (link_behind seen link)
keeps_behind seen wrote heading old new link within k = record {
  kept = more_behind link.header link.sent (wrote link.inner) (seen link.inner) old.kept new.kept within k.kept;
  lent = k.lent;
  accepts = k.accepts;
  answers = k.answers;
  manner = refl;
  plain = k.plain;
  bound = k.bound;
  dialled = k.dialled;
  binds = k.binds;
  connects = k.connects;
}
