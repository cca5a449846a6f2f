-- What the loop did with its net, act by act.
use Rattle.std.proofs.Common.{◌≡◌, ℕ, List, [], ◌∷◌, ◌++◌, Bool, true, false, cond, Option, Some, None, zero, suc, refl, sym, ap, subst, ◌∙◌, inl, inr}
use Rattle.std.specs.Prelude.{◌==◌}
use Rattle.std.proofs.lemmas.List.{append-nil, map-append}
use Rattle.std.proofs.lemmas.Bool.{cases_eq, eq-eqb, ne_eqb}
use Rattle.px_link.specs.Link.{Seen}
use Rattle.px_link.specs.Net.{NetSeen, Keeps}
use Rattle.px_run.specs.Lines.{Ended, said_of, ended_by}
use Rattle.px_run.specs.History.{Visit, Act, Accepts, AcceptsNone, GivesBack, Does, AllDone, accepted_in, returned_in, new_visit, numbered, change_numbered, given_back, link_of, links_back, outcomes_of, Story}
use Rattle.px_run.specs.Hall.{Advances}
use Rattle.px_run.specs.declared.connection.Looked.{Looked}
use Rattle.px_run.proofs.Numbers.{num_here, num_other, num_view, num_map, num_last_view}
use Rattle.px_run.proofs.Texts.{said_then}

module _ {L : Type 0} (seen : L → Seen) (wrote : L → List ℕ → Type 0) where
  done_more : (acts : List (Act L)) (act : Act L) (a b c : NetSeen) → AllDone seen wrote acts a b → Does seen wrote act b c → AllDone seen wrote (acts ++ act ∷ []) a c
  done_more [] act a b c h d = let P : NetSeen → Type 0 = λ n. Does seen wrote act n c in (c, subst P h d, refl)
  done_more (x ∷ acts) act a b c h d = (h.0, h.1, done_more acts act h.0 b c h.2 d)

accepted_then : {L : Type 0} (xs ys : List (Act L)) → accepted_in (xs ++ ys) ≡ accepted_in xs ++ accepted_in ys
accepted_then [] ys = refl
accepted_then (Accepts link ∷ xs) ys = ap (λ l. link ∷ l) (accepted_then xs ys)
accepted_then (AcceptsNone ∷ xs) ys = accepted_then xs ys
accepted_then (GivesBack number link ∷ xs) ys = accepted_then xs ys

or_link : {L : Type 0} (b : Bool) (x : L) (more rest behind : List L) → more ≡ rest ++ behind → cond b (x ∷ more) more ≡ cond b (x ∷ rest) rest ++ behind
or_link true x more rest behind e = ap (λ l. x ∷ l) e
or_link false x more rest behind e = e

returned_then : {L : Type 0} (number : ℕ) (xs ys : List (Act L)) → returned_in number (xs ++ ys) ≡ returned_in number xs ++ returned_in number ys
returned_then number [] ys = refl
returned_then number (Accepts link ∷ xs) ys = returned_then number xs ys
returned_then number (AcceptsNone ∷ xs) ys = returned_then number xs ys
returned_then number (GivesBack other link ∷ xs) ys = or_link (other == number) link (returned_in number (xs ++ ys)) (returned_in number xs) (returned_in number ys) (returned_then number xs ys)

module _ {L N : Type 0} (seen : L → Seen) (wrote : L → List ℕ → Type 0) (begun : NetSeen) where
  pub story_none : Story {N = N} seen wrote begun begun [] []
  story_none = record { acts = []; done = refl; accepted = refl; returned = none; said = said_none }
    where
      none : (number : ℕ) → [] ≡ links_back {L = L} {N = N} (numbered number [])
      none zero = refl
      none (suc place) = refl

      said_none : (number : ℕ) → [] ≡ outcomes_of {L = L} {N = N} (numbered number [])
      said_none zero = refl
      said_none (suc place) = refl

  pub story_fails : (old new : NetSeen) (visits : List (Visit L N)) (ended : List Ended) → Does seen wrote AcceptsNone old new → Story seen wrote begun old visits ended → Story seen wrote begun new visits ended
  story_fails old new visits ended d s =
      record {
        acts = s.acts ++ AcceptsNone ∷ [];
        done = done_more seen wrote s.acts AcceptsNone begun old new s.done d;
        accepted = accepted_then s.acts (AcceptsNone ∷ []) ∙ append-nil (accepted_in s.acts) ∙ s.accepted;
        returned = λ number. returned_then number s.acts (AcceptsNone ∷ []) ∙ append-nil (returned_in number s.acts) ∙ s.returned number;
        said = s.said;
      }

  pub story_accepts : (old new : NetSeen) (visits : List (Visit L N)) (ended : List Ended) (link : L) (own : N) → Does seen wrote (Accepts link) old new → Story seen wrote begun old visits ended → Story seen wrote begun new (visits ++ new_visit link own ∷ []) ended
  story_accepts old new visits ended link own d s =
      record {
        acts = s.acts ++ Accepts link ∷ [];
        done = done_more seen wrote s.acts (Accepts link) begun old new s.done d;
        accepted = accepted_then s.acts (Accepts link ∷ []) ∙ ap (λ l. l ++ link ∷ []) s.accepted ∙ sym (map-append (λ (visit : Visit L N). visit.first) visits (new_visit link own ∷ []));
        returned = λ number. returned_then number s.acts (Accepts link ∷ []) ∙ append-nil (returned_in number s.acts) ∙ s.returned number ∙ sym (num_last_view (λ (o : Option (Visit L N)). links_back o) visits (new_visit link own) number refl);
        said = λ number. s.said number ∙ sym (num_last_view (λ (o : Option (Visit L N)). outcomes_of o) visits (new_visit link own) number refl);
      }

  pub story_ends : (now : NetSeen) (visits behind : List (Visit L N)) (ended : List Ended) (looked : Looked) → Advances looked visits behind → Story seen wrote begun now visits ended → Story seen wrote begun now behind (ended ++ ended_by looked)
  story_ends now visits behind ended looked a s =
      record {
        acts = s.acts;
        done = s.done;
        accepted = s.accepted ∙ sym a.firsts;
        returned = λ number. s.returned number ∙ sym (a.returned number);
        said = λ number. said_then number ended (ended_by looked) ∙ ap (λ l. l ++ said_of number (ended_by looked)) (s.said number) ∙ sym (a.said number);
      }

  pub story_back : (old new : NetSeen) (visits : List (Visit L N)) (ended : List Ended) (number : ℕ) (visit : Visit L N) (client : L) (own : N) → numbered number visits ≡ Some visit → visit.back ≡ None → Keeps (wrote client) old new (seen client)
      → Story seen wrote begun old visits ended → Story seen wrote begun new (change_numbered (given_back client own) number visits) ended
  story_back old new visits ended number visit client own is none d s =
      record {
        acts = s.acts ++ GivesBack number client ∷ [];
        done = done_more seen wrote s.acts (GivesBack number client) begun old new s.done d;
        accepted = accepted_then s.acts (GivesBack number client ∷ []) ∙ append-nil (accepted_in s.acts) ∙ s.accepted ∙ sym (num_map (λ (v : Visit L N). v.first) (given_back client own) (λ v. refl) visits number);
        returned = backs;
        said = λ other. s.said other ∙ sym (num_view (λ (o : Option (Visit L N)). outcomes_of o) (given_back client own) (λ v. refl) visits number other);
      }
    where
      links : Option (Visit L N) → List L
      links o = links_back o

      backs : (other : ℕ) → returned_in other (s.acts ++ GivesBack number client ∷ []) ≡ links_back (numbered other (change_numbered (given_back client own) number visits))
      backs other = elim (cases_eq other number) [
        | inl same ↦ (let one : returned_in other (GivesBack number client ∷ []) ≡ client ∷ [] = ap (λ b. cond b (client ∷ []) []) (eq-eqb number other (sym same)) in
            let was : returned_in other s.acts ≡ [] = s.returned other ∙ ap (λ k. links_back (numbered k visits)) same ∙ ap links is ∙ ap (λ (o : Option (L × N)). link_of o) none in
            let now : links_back (numbered other (change_numbered (given_back client own) number visits)) ≡ client ∷ [] =
            ap (λ k. links_back (numbered k (change_numbered (given_back client own) number visits))) same ∙ ap links (num_here (given_back client own) visits number visit is) in
            returned_then other s.acts (GivesBack number client ∷ []) ∙ ap (λ l. l ++ returned_in other (GivesBack number client ∷ [])) was ∙ one ∙ sym now)
        | inr ne ↦ (let no : returned_in other (GivesBack number client ∷ []) ≡ [] = ap (λ b. cond b (client ∷ []) []) (ne_eqb number other (λ e. ne (sym e))) in
            returned_then other s.acts (GivesBack number client ∷ []) ∙ ap (λ l. returned_in other s.acts ++ l) no ∙ append-nil (returned_in other s.acts) ∙ s.returned other
            ∙ sym (ap links (num_other (given_back client own) visits number other ne)))
      ]
