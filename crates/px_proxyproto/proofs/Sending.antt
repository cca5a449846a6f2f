-- Writes of a link below, as writes behind a header.
use Rattle.std.proofs.Common.{◌≡◌, ℕ, ◌+◌, ◌<◌, List, ◌++◌, length, take, drop, sym, ap, subst, ◌∙◌, take-add}
use Rattle.std.proofs.lemmas.List.{append-nil}
use Rattle.px_link.specs.Link.{Seen, SameKind, SameInput, Took, NoRoom, takes_behind}
use Rattle.px_proxyproto.specs.Sending.{manner_behind, seen_behind, WroteBehind}

kind_behind : (header : List ℕ) (s t : Seen) → SameKind s t → SameKind (seen_behind header s) (seen_behind header t)
kind_behind header s t k = record { ending = k.ending; plain = k.plain; takes = ap (takes_behind (length header)) k.takes; manner = ap (manner_behind header) k.manner }

input_behind : (header : List ℕ) (s t : Seen) → SameInput s t → SameInput (seen_behind header s) (seen_behind header t)
input_behind header s t i = record { to_come = i.to_come; taken = i.taken; kind = kind_behind header s t i.kind; closed = i.closed; reads = i.reads }

input_both : (s t u : Seen) → SameInput s t → SameInput t u → SameInput s u
input_both s t u p q = record {
  to_come = q.to_come ∙ p.to_come;
  taken = q.taken ∙ p.taken;
  kind = record { ending = q.kind.ending ∙ p.kind.ending; plain = q.kind.plain ∙ p.kind.plain; takes = q.kind.takes ∙ p.kind.takes; manner = q.kind.manner ∙ p.kind.manner };
  closed = q.closed ∙ p.closed;
  reads = q.reads ∙ p.reads;
}

-- ---- one call behind others that changed nothing but what is out of the header

pub stays_both : (a b c : List ℕ → Type 0) (s t u : Seen) → NoRoom a b s t → NoRoom b c t u → NoRoom a c s u
stays_both a b c s t u p q = record { wrote = λ bytes h. q.wrote bytes (p.wrote bytes h); input = input_both s t u p.input q.input; writes = q.writes ∙ p.writes }

-- ---- a piece of the header

none_yet : (header : List ℕ) (sent : ℕ) (w : List ℕ → Type 0) (bytes : List ℕ) → sent < length header → WroteBehind header sent w bytes → w (take sent header)
none_yet header sent w bytes more h = subst w (ap (λ (t : List ℕ). take sent header ++ t) (h.first more) ∙ append-nil (take sent header)) h.below

pub header_took : (header piece : List ℕ) (sent n : ℕ) (a b : List ℕ → Type 0) (s t : Seen) → sent < length header → piece ≡ drop sent header → Took a b s t piece n
    → NoRoom (WroteBehind header sent a) (WroteBehind header (sent + n) b) (seen_behind header s) (seen_behind header t)
header_took header piece sent n a b s t more is p = record {
  wrote = λ bytes h.
      let none = h.first more in
      let out : b (take sent header ++ take n (drop sent header)) = subst (λ (t : List ℕ). b (take sent header ++ take n t)) is (p.wrote (take sent header) (none_yet header sent a bytes more h)) in
      let whole : take sent header ++ take n (drop sent header) ≡ take (sent + n) header ++ bytes =
      sym (take-add sent n header) ∙ (sym (append-nil (take (sent + n) header)) ∙ ap (λ (t : List ℕ). take (sent + n) header ++ t) (sym none)) in
      record { first = λ _. none; below = subst b whole out };
  input = input_behind header s t p.input;
  writes = p.writes;
}

-- ---- a piece behind it
