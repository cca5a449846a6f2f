-- All connections, where their links were asked and nothing else was done.
use Rattle.std.proofs.Common.{◌≡◌, ℕ, ◌<◌, List, [], ◌∷◌, ◌++◌, Option, Some, None, length, get_or, set, refl, sym, ap, subst, ◌∙◌, inl, inr, arith}
use Rattle.px_link.specs.Link.{Seen}
use Rattle.px_link.specs.Net.{NetSeen}
use Rattle.px_run.specs.Hall.{IsAsked, IsAskedAt, IsHere, AllAsked, taken_at, count_taken}
use Rattle.px_run.specs.declared.hall.Hall.{Hall}
use Rattle.px_run.specs.declared.connection.Connection.{Connection}
use Rattle.px_run.proofs.Asked.{same_link, same_server, same_then, same_server_then}
use Rattle.px_run.proofs.Halls.{taken_set_same, taken_pushed}
use Rattle.px_run.proofs.Numbers.{some_same, here_set, here_at, here_front}

module _ {C L N : Type 0} (seen : L → Seen) (wrote : L → List ℕ → Type 0) (sees_net : N → NetSeen) where
  pub asked_same : (c : Connection C L N) → IsAsked seen wrote sees_net c c
  asked_same c = record { number = refl; caller = refl; client = same_link seen wrote c.conn.client; server = same_server seen wrote c.conn.server; net = refl; ran = refl; core = refl }

  pub asked_some : (old : Option (Connection C L N)) (c : Connection C L N) → IsAskedAt seen wrote sees_net old (Some c) → (b : Connection C L N) × (old ≡ Some b) × IsAsked seen wrote sees_net b c
  asked_some None c a = absurd a
  asked_some (Some b) c a = (b, refl, a)

  pub asked_taken : (old new : Option (Connection C L N)) → IsAskedAt seen wrote sees_net old new → taken_at new ≡ taken_at old
  asked_taken None None a = refl
  asked_taken None (Some c) a = absurd a
  asked_taken (Some b) None a = absurd a
  asked_taken (Some b) (Some c) a = refl

  pub asked_at_none : (at : Option (Connection C L N)) → at ≡ None → IsAskedAt seen wrote sees_net at at
  asked_at_none None e = tt
  asked_at_none (Some c) e = cc

  pub asked_at_some : (at : Option (Connection C L N)) (b c : Connection C L N) → at ≡ Some b → IsAsked seen wrote sees_net b c → IsAskedAt seen wrote sees_net at (Some c)
  asked_at_some None b c e a = cc
  asked_at_some (Some d) b c e a = let same : b ≡ d = sym (some_same d b e) in subst (λ (o : Connection C L N). IsAsked seen wrote sees_net o c) same a

  -- at one place of all
  pub asked_set : (places : List (Option (Connection C L N))) (place : ℕ) (old new : Option (Connection C L N)) → place < length places → get_or places place old ≡ old → IsAskedAt seen wrote sees_net old new
      → (other : ℕ) (c : Connection C L N) → IsHere (set places place new) other c → (b : Connection C L N) × IsHere places other b × IsAsked seen wrote sees_net b c
  asked_set places place old new w e a other c h = elim (here_set places place other new c h) [
    | inl k ↦ (let b = asked_some old c (subst (λ (o : Option (Connection C L N)). IsAskedAt seen wrote sees_net old o) k.1 a) in
        (b.0, subst (λ (n : ℕ). IsHere places n b.0) (sym k.0) (here_at places place old b.0 w e b.1), b.2))
    | inr k ↦ (c, k.1, asked_same c)
  ]

  pub asked_set_taken : (places : List (Option (Connection C L N))) (place : ℕ) (old new : Option (Connection C L N)) → place < length places → get_or places place old ≡ old → IsAskedAt seen wrote sees_net old new → count_taken (set places place new) ≡ count_taken places
  asked_set_taken places place old new w e a = taken_set_same places place new old w e (asked_taken old new a)

  pub all_asked : (hall : Hall C L N) → AllAsked seen wrote sees_net hall hall
  all_asked hall = record { each = λ place c h. (c, h, asked_same c); taken = refl; sets = refl; accepted = refl; output = refl }

  asked_then : (a b c : Connection C L N) → IsAsked seen wrote sees_net a b → IsAsked seen wrote sees_net b c → IsAsked seen wrote sees_net a c
  asked_then a b c s t =
      record {
        number = t.number ∙ s.number;
        client = same_then seen wrote a.conn.client b.conn.client c.conn.client s.client t.client;
        server = same_server_then seen wrote a.conn.server b.conn.server c.conn.server s.server t.server;
        net = t.net ∙ s.net;
        caller = t.caller ∙ s.caller;
        ran = t.ran ∙ s.ran;
        core = t.core ∙ s.core;
      }

  pub all_asked_then : (a b c : Hall C L N) → AllAsked seen wrote sees_net a b → AllAsked seen wrote sees_net b c → AllAsked seen wrote sees_net a c
  all_asked_then a b c s t =
      record {
        each = λ place x h. let y = t.each place x h in let z = s.each place y.0 y.1 in (z.0, z.1, asked_then z.0 y.0 x z.2 y.2);
        taken = t.taken ∙ s.taken;
        sets = t.sets ∙ s.sets;
        accepted = t.accepted ∙ s.accepted;
        output = t.output ∙ s.output;
      }

  -- the same connections are here
  pub all_asked_by : (old new : Hall C L N) → ((place : ℕ) (c : Connection C L N) → IsHere new.places.items place c → IsHere old.places.items place c) → count_taken new.places.items ≡ count_taken old.places.items → new.sets ≡ old.sets → new.accepted ≡ old.accepted → new.output ≡ old.output
      → AllAsked seen wrote sees_net old new
  all_asked_by old new here taken sets accepted output =
      record { each = λ place c h. (c, here place c h, asked_same c); taken = taken; sets = ap (λ s. s.items) sets; accepted = accepted; output = output }

  -- a further place is there, at which nobody is
  pub asked_more : (old new : Hall C L N) → new.places.items ≡ old.places.items ++ None ∷ [] → new.sets ≡ old.sets → new.accepted ≡ old.accepted → new.output ≡ old.output → AllAsked seen wrote sees_net old new
  asked_more old new places sets accepted output =
      let here : (place : ℕ) (c : Connection C L N) → IsHere new.places.items place c → IsHere old.places.items place c = λ place c h. here_front old.places.items place c (subst (λ (l : List (Option (Connection C L N))). IsHere l place c) places h) in
      let more : count_taken new.places.items ≡ count_taken (old.places.items ++ None ∷ []) = ap (λ (l : List (Option (Connection C L N))). count_taken l) places in
      let none = taken_pushed old.places.items None in
      all_asked_by old new here (omega (arith, more, none)) sets accepted output

  -- the same, with another time
  pub asked_as : (old new other : Hall C L N) → other.places.items ≡ new.places.items → other.sets.items ≡ new.sets.items → other.accepted ≡ new.accepted → other.output ≡ new.output → AllAsked seen wrote sees_net old new → AllAsked seen wrote sees_net old other
  asked_as old new other places sets accepted output a =
      record {
        each = λ place c h. a.each place c (subst (λ (l : List (Option (Connection C L N))). IsHere l place c) places h);
        taken = ap (λ (l : List (Option (Connection C L N))). count_taken l) places ∙ a.taken;
        sets = sets ∙ a.sets;
        accepted = accepted ∙ a.accepted;
        output = output ∙ a.output;
      }
