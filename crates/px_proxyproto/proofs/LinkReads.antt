-- Reads of a link, one after another.
use Rattle.std.proofs.Common.{◌≡◌, ℕ, ◌≤◌, List, [], ◌++◌, length, take, drop, refl, sym, ap, subst, ◌∙◌, arith, append_assoc, length-append, take-append-drop}
use Rattle.std.specs.Prelude.{Option, Some, None, IfSome}
use Rattle.std.proofs.lemmas.List.{append-nil, length-take-le}
use Rattle.http_model.specs.declared.Ending.{Ending}
use Rattle.http_model.specs.declared.Ending.TheVariants.{Closed, Broke}
use Rattle.px_link.specs.Link.{Seen, Gave, ReadFailed, counted}
use Rattle.px_link.specs.Calls.{fault_after}
use Rattle.px_proxyproto.specs.declared.state.ProxyState.{ProxyState}
use Rattle.px_proxyproto.specs.declared.state.ProxyState.TheVariants.{More, Got, Bad}
use Rattle.px_proxyproto.specs.declared.greeting.Greeting.{Greeting}
use Rattle.px_proxyproto.specs.declared.greeting.Greeting.TheVariants as greetings
use Rattle.px_proxyproto.specs.Headers.{NoneYet}
use Rattle.px_proxyproto.specs.Reading.{Read, Told}
use Rattle.px_proxyproto.specs.Greeting.{TakenFrom, EndsBehind, Refuses, never_begins, has_ended, has_failed, ReadsOn, GreetsSoFar, WentOn}

abbrev Next : List ℕ → Option (List ℕ) → Option (List ℕ) → Type 0
Next bytes old new = IfSome old (λ all. (rest : List ℕ) × (all ≡ bytes ++ rest) × (new ≡ Some rest))

abbrev Taken : ℕ → Option ℕ → Option ℕ → Type 0
Taken n old new = IfSome old (λ k. new ≡ Some (counted k n))

taken_none : (o : Option ℕ) → Taken 0 o o
taken_none None = tt
taken_none (Some k) = let e : k ≡ counted k 0 = omega arith in ap Some e

next_both : (x y : List ℕ) (a b c : Option (List ℕ)) → Next x a b → Next y b c → Next (x ++ y) a c
next_both x y None b c p q = tt
next_both x y (Some all) b c p q =
    let r : Next y (Some p.0) c = subst (λ (o : Option (List ℕ)). Next y o c) p.2 q in
    (r.0, p.1 ∙ (ap (λ (t : List ℕ). x ++ t) r.1 ∙ sym (append_assoc x y r.0)), r.2)

taken_both : (x y : List ℕ) (a b c : Option ℕ) → Taken (length x) a b → Taken (length y) b c → Taken (length (x ++ y)) a c
taken_both x y None b c p q = tt
taken_both x y (Some k) b c p q =
    let r : Taken (length y) (Some (counted k (length x))) c = subst (λ (o : Option ℕ). Taken (length y) o c) p q in
    let e : counted (counted k (length x)) (length y) ≡ counted k (length (x ++ y)) = omega (arith, length-append x y) in
    r ∙ ap Some e

pub both_taken : (s t u : Seen) (x y : List ℕ) → TakenFrom s t x → TakenFrom t u y → TakenFrom s u (x ++ y)
both_taken s t u x y p q = record {
  next = next_both x y s.to_come t.to_come u.to_come p.next q.next;
  taken = taken_both x y s.taken t.taken u.taken p.taken q.taken;
  kind = record { ending = q.kind.ending ∙ p.kind.ending; plain = q.kind.plain ∙ p.kind.plain; takes = q.kind.takes ∙ p.kind.takes; manner = q.kind.manner ∙ p.kind.manner };
  closed = q.closed ∙ p.closed;
  writes = q.writes ∙ p.writes;
}

-- ---- one read

abbrev Gives : (into : List ℕ) (n : ℕ) (old new : Option (List ℕ)) → Type 0
Gives into n old new = IfSome old (λ bytes. (n ≤ length bytes) × (take n into ≡ take n bytes) × (new ≡ Some (drop n bytes)))

gives_next : (into : List ℕ) (n : ℕ) (old new : Option (List ℕ)) → Gives into n old new → Next (take n into) old new
gives_next into n None new g = tt
gives_next into n (Some bytes) new g = (drop n bytes, sym (take-append-drop n bytes) ∙ ap (λ (t : List ℕ). t ++ drop n bytes) (sym g.1), g.2)

gives_taken : (n m : ℕ) (old new : Option ℕ) → n ≡ m → Taken n old new → Taken m old new
gives_taken n m None new e g = tt
gives_taken n m (Some k) new e g = g ∙ ap (λ (x : ℕ). Some (counted k x)) e

pub gave_taken : (s t : Seen) (into : List ℕ) (n : ℕ) → Gave s t into n → TakenFrom s t (take n into)
gave_taken s t into n g = record {
  next = gives_next into n s.to_come t.to_come g.gives;
  taken = gives_taken n (length (take n into)) s.taken t.taken (sym (length-take-le n into g.within)) g.taken;
  kind = g.kind;
  closed = g.closed;
  writes = g.writes;
}

failed_next : (a b : Option (List ℕ)) → b ≡ a → Next [] a b
failed_next None b e = tt
failed_next (Some all) b e = (all, refl, e)

failed_taken : (a b : Option ℕ) → b ≡ a → Taken 0 a b
failed_taken None b e = tt
failed_taken (Some k) b e = e ∙ taken_none (Some k)

failed_from : (s t : Seen) → ReadFailed s t → TakenFrom s t []
failed_from s t f = record {
  next = failed_next s.to_come t.to_come f.to_come;
  taken = failed_taken s.taken t.taken f.taken;
  kind = f.kind;
  closed = f.closed;
  writes = f.writes;
}

none_behind : (before : List ℕ) → NoneYet before → NoneYet (before ++ [])
none_behind before none = subst NoneYet (sym (append-nil before)) none

pub read_failed : (before : List ℕ) (s t : Seen) (reader : Read) → NoneYet before → ReadFailed s t → ReadsOn before s t reader Bad
read_failed before s t reader none f = ([], failed_from s t f, has_failed f.fails f.one_more, none_behind before none)

pub read_ended : (before : List ℕ) (s t : Seen) (reader : Read) (into : List ℕ) (n : ℕ) → n ≡ 0 → NoneYet before → Gave s t into n → ReadsOn before s t reader Bad
read_ended before s t reader into n zero none g =
    let piece : TakenFrom s t [] = subst (λ (k : ℕ). TakenFrom s t (take k into)) zero (gave_taken s t into n g) in
    ([], piece, has_ended (g.at_end zero) g.reads, none_behind before none)

pub read_told : (state : ProxyState) (before : List ℕ) (s t : Seen) (reader : Read) (into : List ℕ) (n : ℕ) → Gave s t into n → Told state reader (before ++ take n into) → ReadsOn before s t reader state
read_told More before s t reader into n g told = (take n into, gave_taken s t into n g, g.reads, told)
read_told (Got pair) before s t reader into n g told = (take n into, gave_taken s t into n g, g.reads, told)
read_told Bad before s t reader into n g told = (take n into, gave_taken s t into n g, never_begins told.0 g.reads, told.1)

-- ---- and one behind another

ends_next : (x y : List ℕ) (a b : Option (List ℕ)) → Next x a b → IfSome b (λ all. all ≡ y) → IfSome a (λ all. all ≡ x ++ y)
ends_next x y None b p q = tt
ends_next x y (Some all) b p q =
    let r : p.0 ≡ y = subst (λ (o : Option (List ℕ)). IfSome o (λ t. t ≡ y)) p.2 q in
    p.1 ∙ ap (λ (t : List ℕ). x ++ t) r

ends_both : (s t : Seen) (x y : List ℕ) (ending : Ending) → TakenFrom s t x → EndsBehind t y ending → EndsBehind s (x ++ y) ending
ends_both s t x y ending p q = (
  ends_next x y s.to_come t.to_come p.next q.0,
  subst (λ (o : Option Ending). IfSome o (λ e. e ≡ ending)) p.kind.ending q.1,
)

pub refuses_both : (s t u : Seen) (x y : List ℕ) → TakenFrom s t x → t.read_faults ≡ s.read_faults → Refuses x t u y → Refuses [] s u (x ++ y)
refuses_both s t u x y p same (never_begins never reads) = never_begins never (reads ∙ same)
refuses_both s t u x y p same (has_ended ends reads) = has_ended (ends_both s t x y Closed p ends) (reads ∙ same)
refuses_both s t u x y p same (has_failed fails reads) = has_failed (λ plain. ends_both s t x y Broke p (fails (p.kind.plain ∙ plain))) (reads ∙ ap fault_after same)

pub nothing_taken : (s : Seen) → TakenFrom s s []
nothing_taken s = record {
  next = failed_next s.to_come s.to_come refl;
  taken = failed_taken s.taken s.taken refl;
  kind = record { ending = refl; plain = refl; takes = refl; manner = refl };
  closed = refl;
  writes = refl;
}

-- what a greeter has told by what its piece told
abbrev pub greeting_of : ProxyState → Option Greeting
greeting_of More = None
greeting_of (Got pair) = Some (greetings.Got pair)
greeting_of Bad = Some greetings.Bad

pub went_on : (state : ProxyState) (s t u : Seen) (reader next : Read) → (w : GreetsSoFar reader s t) → ReadsOn w.0 t u next state → WentOn next s u (greeting_of state)
went_on More s t u reader next w r = (w.0 ++ r.0, both_taken s t u w.0 r.0 w.1 r.1, r.2 ∙ w.2, r.3)
went_on (Got pair) s t u reader next w r = (w.0 ++ r.0, both_taken s t u w.0 r.0 w.1 r.1, r.2 ∙ w.2, r.3)
went_on Bad s t u reader next w r = (w.0 ++ r.0, both_taken s t u w.0 r.0 w.1 r.1, refuses_both s t u w.0 r.0 w.1 w.2 r.2, r.3)
