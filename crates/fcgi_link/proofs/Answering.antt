-- Reads of a link that asks an application, by those of the link below.
use Rattle.std.proofs.Common.{◌≡◌, ◌⊎◌, ℕ, ◌+◌, ◌-◌, ◌≤◌, ◌<◌, ◌^◌, inl, inr, Bool, List, [], ◌∷◌, ◌++◌, length, take, drop, min, refl, sym, ap, subst, ◌∙◌, arith}
use Rattle.std.specs.Prelude.{Option, Some, None, IfSome, option_map}
use Rattle.std.proofs.lemmas.List.{length-append, length-take-le, take_at, drop_at}
use Rattle.http_model.specs.declared.Close.{Close}
use Rattle.http_model.specs.declared.Ending.{Ending}
use Rattle.http_model.specs.declared.Ending.TheVariants.{Closed}
use Rattle.px_link.specs.Link.{Seen, Untold, Asks, Gave, counted}
use Rattle.fcgi_model.specs.Application.{Application}
use Rattle.fcgi_lane.specs.Answer.Cgi.{HttpStream}
use Rattle.fcgi_lane.specs.Answer.Stands.{Translating, left_in, ready_in}
use Rattle.fcgi_link.specs.Reading.{IsAlike, IsGivenOf}
use Rattle.fcgi_link.specs.Asking.{AnswersSeen, seen_asking}

abbrev bytes_of : Option HttpStream → Option (List ℕ)
bytes_of stream = option_map (λ (s : HttpStream). s.bytes) stream

abbrev ending_of : Option HttpStream → Option Ending
ending_of stream = option_map (λ (s : HttpStream). s.ending) stream

-- the stream, where it is told, is empty and ends so
abbrev IsOut : Ending → Option HttpStream → Type 0
IsOut how stream = IfSome (bytes_of stream) (λ bytes. bytes ≡ []) × IfSome (ending_of stream) (λ ending. ending ≡ how)

closed_there : (t : Translating) (come : Option (List ℕ)) → ((rest : List ℕ) → left_in t rest ≡ record { bytes = []; ending = Closed }) → IsOut Closed (option_map (left_in t) come)
closed_there t None h = (tt, tt)
closed_there t (Some bytes) h = (ap (λ (s : HttpStream). s.bytes) (h bytes), ap (λ (s : HttpStream). s.ending) (h bytes))

-- ---- a read that gave bytes

-- so many bytes are given of a stream
abbrev Gives : (into : List ℕ) → (n : ℕ) → (new old : Option HttpStream) → Type 0
Gives into n new old = IfSome (bytes_of old) (λ bytes. (n ≤ length bytes) × (take n into ≡ take n bytes) × (bytes_of new ≡ Some (drop n bytes)))

given_there : (b c : Translating) (come : Option (List ℕ)) (into : List ℕ) (n : ℕ) → IsGivenOf b c into n → Gives into n (option_map (left_in c) come) (option_map (left_in b) come)
given_there b c None into n g = tt
given_there b c (Some rest) into n g =
    let front : List ℕ = take n (ready_in b.head) in
    let is : (left_in b rest).bytes ≡ front ++ (left_in c rest).bytes = ap (λ (s : HttpStream). s.bytes) (g.left rest) in
    let len : length front ≡ n = length-take-le n (ready_in b.head) g.some in (
      omega (arith, ap length is, length-append front (left_in c rest).bytes, len),
      g.given ∙ sym (ap (take n) is ∙ take_at front (left_in c rest).bytes n len),
      ap Some (sym (ap (drop n) is ∙ drop_at front (left_in c rest).bytes n len)),
    )

ending_there : (b c : Translating) (come : Option (List ℕ)) (into : List ℕ) (n : ℕ) → IsGivenOf b c into n → ending_of (option_map (left_in c) come) ≡ ending_of (option_map (left_in b) come)
ending_there b c None into n g = refl
ending_there b c (Some rest) into n g = ap Some (sym (ap (λ (s : HttpStream). s.ending) (g.left rest)))

untold_there : (b c : Translating) (come : Option (List ℕ)) → bytes_of (option_map (left_in b) come) ≡ None → bytes_of (option_map (left_in c) come) ≡ None
untold_there b c None e = refl
untold_there b c (Some rest) e = cc

pub read_gave : (application : Application) (old new : AnswersSeen) (mid : Translating) (write_faults : ℕ) (s t : Seen) (into : List ℕ) (n : ℕ) → IsAlike old.translating s mid t → IsGivenOf mid new.translating into n
    → (n ≡ 0 → (rest : List ℕ) → left_in mid rest ≡ record { bytes = []; ending = Closed }) → new.given ≡ counted old.given n → new.faults ≡ old.faults
    → Gave (seen_asking application old write_faults s) (seen_asking application new write_faults t) into n
read_gave application old new mid write_faults s t into n alike gives over given faults = record {
  within = gives.within;
  untold = subst (λ (x : Option HttpStream). bytes_of x ≡ None → bytes_of (option_map (left_in new.translating) t.to_come) ≡ None) alike.stream (untold_there mid new.translating t.to_come);
  gives = subst (Gives into n (option_map (left_in new.translating) t.to_come)) alike.stream (given_there mid new.translating t.to_come into n gives);
  at_end = λ none. subst (IsOut Closed) alike.stream (closed_there mid t.to_come (over none));
  taken = ap Some given;
  kind = record { ending = ending_there mid new.translating t.to_come into n gives ∙ ap ending_of alike.stream; plain = alike.plain; takes = refl; manner = refl };
  closed = alike.closed;
  reads = faults;
  writes = refl;
}

-- where none were given there are none
pub nothing_ready : (n : ℕ) (into ready : List ℕ) → 0 < length into → (n ≡ length into) ⊎ (n ≡ length ready) → n ≡ 0 → ready ≡ []
nothing_ready n into [] some (inl all) none = refl
nothing_ready n into [] some (inr all) none = refl
nothing_ready n into (b ∷ ready) some (inl all) none = absurd (omega (arith, some, all, none))
nothing_ready n into (b ∷ ready) some (inr all) none = absurd (omega (arith, all, none))

pub counted_is : (k n r : ℕ) → k < 2 ^ 64 → r ≡ min (k + n) (2 ^ 64 - 1) → r ≡ counted k n
counted_is k n r below is = omega (arith, below, is)

-- ---- reads of the link below that gave nothing yet

-- what is told of a link by the stream that is left, and the counts
abbrev told : Application → (write_faults : ℕ) → Option HttpStream → Option (Option Close) → (plain : Bool) → (given faults : ℕ) → Seen
told application write_faults stream closed plain given faults = record {
  to_come = bytes_of stream;
  ending = ending_of stream;
  closed = closed;
  plain = plain;
  takes = Untold;
  manner = Asks application;
  taken = Some given;
  read_faults = faults;
  write_faults = write_faults;
}

pub same_asking : (application : Application) (old new : AnswersSeen) (write_faults : ℕ) (s t : Seen) → IsAlike old.translating s new.translating t → new.given ≡ old.given → new.faults ≡ old.faults
    → seen_asking application new write_faults t ≡ seen_asking application old write_faults s
same_asking application old new write_faults s t alike given faults =
    let stream : Option HttpStream = option_map (left_in old.translating) s.to_come in
    ap (λ (x : Option HttpStream). told application write_faults x t.closed t.plain new.given new.faults) alike.stream
    ∙ ap (λ (x : Option (Option Close)). told application write_faults stream x t.plain new.given new.faults) alike.closed
    ∙ ap (λ (x : Bool). told application write_faults stream s.closed x new.given new.faults) alike.plain
    ∙ ap (λ (x : ℕ). told application write_faults stream s.closed s.plain x new.faults) given
    ∙ ap (λ (x : ℕ). told application write_faults stream s.closed s.plain old.given x) faults
