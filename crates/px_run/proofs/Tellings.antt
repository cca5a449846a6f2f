-- What a net that tells its links has told, behind all that was done with it.
use Rattle.std.proofs.Common.{◌≡◌, ℕ, ◌+◌, List, [], ◌∷◌, ◌++◌, Bool, true, false, cond, Option, Some, None, length, map, refl, sym, ap, subst, ◌∙◌, inl, inr, append_assoc, arith}
use Rattle.std.specs.Prelude.{◌==◌}
use Rattle.std.specs.List.{AllByRecursion}
use Rattle.std.proofs.lemmas.List.{append-nil}
use Rattle.std.proofs.lemmas.Bool.{eq-eqb}
use Rattle.px_link.specs.Link.{Seen, AsItIs, PassesOn}
use Rattle.px_link.specs.Net.{Coming, Kept, NetSeen, IsNext, IsNew, KeepsMore, new_link, kept_link, has_failed}
use Rattle.px_run.specs.History.{Visit, Act, Accepts, AcceptsNone, GivesBack, Does, AllDone, accepted_in, returned_in, numbered, link_of, links_back, Story}
use Rattle.px_run.specs.Lines.{Ended}
use Rattle.px_run.specs.Served.{IsKeptOf, times_in, TellsMany}

next_as : (old new : Option (List Coming)) (coming : List Coming) (P : Coming → Type 0) → old ≡ Some coming → IsNext old new P → IsNext (Some coming) new P
next_as old new coming P e h = let Q : Option (List Coming) → Type 0 = λ o. IsNext o new P in subst Q e h

keeps_as : (old new : Option (List Kept)) (before : List Kept) (wrote : List ℕ → Type 0) (link : Seen) → old ≡ Some before → KeepsMore old new wrote link → KeepsMore (Some before) new wrote link
keeps_as old new before wrote link e h = let Q : Option (List Kept) → Type 0 = λ o. KeepsMore o new wrote link in subst Q e h

module _ {L : Type 0} (seen : L → Seen) (wrote : L → List ℕ → Type 0) where
  -- what is written to it is passed on as it is
  abbrev pub PassesAsItIs : L → Type 0
  PassesAsItIs link = (seen link).manner ≡ AsItIs

  -- ---- links that were accepted

  pub record Takes (acts : List (Act L)) (new : NetSeen) (coming : List Coming) : Type 0 where
    pub accepted : List Coming
    pub later : List Coming
    pub front : coming ≡ accepted ++ later
    pub accepts : new.accepts ≡ Some later
    pub firsts : map seen (accepted_in acts) ≡ map (new_link AsItIs) accepted
    pub fresh : AllByRecursion (λ (link : L). wrote link []) (accepted_in acts)
    pub as_it_is : AllByRecursion PassesAsItIs (accepted_in acts)

  takes_one : (link : L) (acts : List (Act L)) (next new : NetSeen) (coming : List Coming) → PassesAsItIs link → IsNext (Some coming) next.accepts (IsNew AsItIs (seen link) (wrote link [])) → ((later : List Coming) → next.accepts ≡ Some later → Takes acts new later) → Takes (Accepts link ∷ acts) new coming
  takes_one link acts next new [] m h more = absurd h
  takes_one link acts next new (first ∷ later) m h more =
      let t = more later h.0 in
      record { accepted = first ∷ t.accepted; later = t.later; front = ap (λ l. first ∷ l) t.front; accepts = t.accepts; firsts = ap (λ l. seen link ∷ l) t.firsts ∙ ap (λ x. x ∷ map (new_link AsItIs) t.accepted) h.1.0; fresh = (h.1.1, t.fresh); as_it_is = (m, t.as_it_is) }

  takes_none : (act : Act L) (acts : List (Act L)) (old new : NetSeen) (d : Does seen wrote AcceptsNone old new) → new.accepts ≡ old.accepts
  takes_none act acts old new (inl h) = h.accepts
  takes_none act acts old new (inr h) = h.accepts

  keeps_none : (old new : NetSeen) (d : Does seen wrote AcceptsNone old new) → new.kept ≡ old.kept
  keeps_none old new (inl h) = let b = h.behind in b.kept
  keeps_none old new (inr h) = let b = h.behind in b.kept

  takes : (acts : List (Act L)) (old new : NetSeen) (coming : List Coming) → AllDone seen wrote acts old new → old.accepts ≡ Some coming → Takes acts new coming
  takes [] old new coming d e = record { accepted = []; later = coming; front = refl; accepts = ap (λ (n : NetSeen). n.accepts) d ∙ e; firsts = refl; fresh = tt; as_it_is = tt }
  takes (Accepts link ∷ acts) old new coming d e =
      let one = d.1 in
      takes_one link acts d.0 new coming one.as_it_is (next_as old.accepts d.0.accepts coming (IsNew AsItIs (seen link) (wrote link [])) e one.first) (λ later f. takes acts d.0 new later d.2 f)
  takes (AcceptsNone ∷ acts) old new coming d e =
      let t = takes acts d.0 new coming d.2 (takes_none AcceptsNone acts old d.0 d.1 ∙ e) in
      record { accepted = t.accepted; later = t.later; front = t.front; accepts = t.accepts; firsts = t.firsts; fresh = t.fresh; as_it_is = t.as_it_is }
  takes (GivesBack number link ∷ acts) old new coming d e =
      let one = d.1 in
      let t = takes acts d.0 new coming d.2 (one.accepts ∙ e) in
      record { accepted = t.accepted; later = t.later; front = t.front; accepts = t.accepts; firsts = t.firsts; fresh = t.fresh; as_it_is = t.as_it_is }

  -- ---- links that were kept

  -- each is one that was given back, as it was then
  abbrev IsReturned : List (Act L) → ℕ × Kept → Type 0
  IsReturned acts one = (link : L) × (before : List L) × (after : List L) × (returned_in one.0 acts ≡ before ++ link ∷ after) × (one.1 ≡ kept_link (seen link) one.1.wrote) × ((text : List ℕ) → wrote link text → PassesOn (seen link).manner (has_failed (seen link)) one.1.wrote text)

  pub record Keeps (acts : List (Act L)) (new : NetSeen) (before : List Kept) : Type 0 where
    pub links : List (ℕ × Kept)
    pub kept : new.kept ≡ Some (before ++ map (λ (one : ℕ × Kept). one.1) links)
    pub each : AllByRecursion (IsReturned acts) links
    pub once : (number : ℕ) → times_in number links ≡ length (returned_in number acts)

  one_more : (b : Bool) (link : L) (more : List L) (times : ℕ) → times ≡ length more → cond b (1 + times) times ≡ length (cond b (link ∷ more) more)
  one_more true link more times e = omega (arith, e)
  one_more false link more times e = e

  returned_more : (b : Bool) (link x : L) (more before after : List L) → more ≡ before ++ x ∷ after → (front : List L) × (cond b (link ∷ more) more ≡ front ++ x ∷ after)
  returned_more true link x more before after e = (link ∷ before, ap (λ l. link ∷ l) e)
  returned_more false link x more before after e = (before, e)

  each_more : (number : ℕ) (link : L) (acts : List (Act L)) (links : List (ℕ × Kept)) → AllByRecursion (IsReturned acts) links → AllByRecursion (IsReturned (GivesBack number link ∷ acts)) links
  each_more number link acts [] a = tt
  each_more number link acts (one ∷ links) a =
      let h = a.0 in
      let m = returned_more (number == one.0) link h.0 (returned_in one.0 acts) h.1 h.2 h.3 in
      ((h.0, m.0, h.2, m.1, h.4, h.5), each_more number link acts links a.1)

  keeps : (acts : List (Act L)) (old new : NetSeen) (before : List Kept) → AllDone seen wrote acts old new → old.kept ≡ Some before → Keeps acts new before
  keeps [] old new before d e = record { links = []; kept = ap (λ (n : NetSeen). n.kept) d ∙ e ∙ ap (λ l. Some l) (sym (append-nil before)); each = tt; once = λ number. refl }
  keeps (Accepts link ∷ acts) old new before d e =
      let one = d.1 in
      let b = one.behind in
      let t = keeps acts d.0 new before d.2 (b.kept ∙ e) in
      record { links = t.links; kept = t.kept; each = t.each; once = t.once }
  keeps (AcceptsNone ∷ acts) old new before d e =
      let t = keeps acts d.0 new before d.2 (keeps_none old d.0 d.1 ∙ e) in
      record { links = t.links; kept = t.kept; each = t.each; once = t.once }
  keeps (GivesBack number link ∷ acts) old new before d e =
      let one = d.1 in
      let own = keeps_as old.kept d.0.kept before (wrote link) (seen link) e one.kept in
      let this : Kept = kept_link (seen link) own.0 in
      let t = keeps acts d.0 new (before ++ this ∷ []) d.2 own.1 in
      record {
        links = (number, this) ∷ t.links;
        kept = t.kept ∙ ap (λ l. Some l) (append_assoc before (this ∷ []) (map (λ (k : ℕ × Kept). k.1) t.links));
        each = ((link, [], returned_in number acts, ap (λ b. cond b (link ∷ returned_in number acts) (returned_in number acts)) (eq-eqb number number refl), refl, own.2), each_more number link acts t.links t.each);
        once = λ other. one_more (number == other) link (returned_in other acts) (times_in other t.links) (t.once other);
      }

module _ {L N : Type 0} (seen : L → Seen) (wrote : L → List ℕ → Type 0) where
  -- of one link at most
  the_link : (o : Option (Visit L N)) (before after : List L) (link : L) → links_back o ≡ before ++ link ∷ after → links_back o ≡ link ∷ []
  the_link None [] after link e = cc
  the_link None (x ∷ before) after link e = cc
  the_link (Some visit) before after link e = the_one visit.back before after link e
    where
      the_one : (back : Option (L × N)) (before after : List L) (link : L) → link_of back ≡ before ++ link ∷ after → link_of back ≡ link ∷ []
      the_one None [] after link e = cc
      the_one None (x ∷ before) after link e = cc
      the_one (Some back) [] after link e = let same : back.0 ≡ link = cc in ap (λ x. x ∷ []) same
      the_one (Some back) (x ∷ []) after link e = cc
      the_one (Some back) (x ∷ y ∷ before) after link e = cc

  each_kept : (visits : List (Visit L N)) (acts : List (Act L)) → ((number : ℕ) → returned_in number acts ≡ links_back (numbered number visits)) → ((number : ℕ) → AllByRecursion (PassesAsItIs seen wrote) (links_back (numbered number visits))) → (links : List (ℕ × Kept)) → AllByRecursion (IsReturned seen wrote acts) links
      → AllByRecursion (IsKeptOf seen wrote visits) links
  each_kept visits acts same manners [] a = tt
  each_kept visits acts same manners (one ∷ links) a =
      let h = a.0 in
      let back = the_link (numbered one.0 visits) h.1 h.2 h.0 (sym (same one.0) ∙ h.3) in
      let own = subst (λ (l : List L). AllByRecursion (PassesAsItIs seen wrote) l) back (manners one.0) in
      (record { link = h.0; back = back; is = h.4; as_it_is = own.0; written = h.5 }, each_kept visits acts same manners links a.1)

  map_view : (visits : List (Visit L N)) → map seen (map (λ (visit : Visit L N). visit.first) visits) ≡ map (λ (visit : Visit L N). seen visit.first) visits
  map_view [] = refl
  map_view (visit ∷ visits) = ap (λ l. seen visit.first ∷ l) (map_view visits)

  of_firsts : (P : L → Type 0) (visits : List (Visit L N)) → AllByRecursion P (map (λ (visit : Visit L N). visit.first) visits) → AllByRecursion (λ (visit : Visit L N). P visit.first) visits
  of_firsts P [] a = tt
  of_firsts P (visit ∷ visits) a = (a.0, of_firsts P visits a.1)

  pub tells : (begun now : NetSeen) (visits : List (Visit L N)) (ended : List Ended) (coming : List Coming) (before : List Kept)
      → (AllByRecursion (λ (visit : Visit L N). PassesAsItIs seen wrote visit.first) visits → (number : ℕ) → AllByRecursion (PassesAsItIs seen wrote) (links_back (numbered number visits)))
      → Story seen wrote begun now visits ended → begun.accepts ≡ Some coming → begun.kept ≡ Some before → TellsMany seen wrote now coming before visits
  tells begun now visits ended coming before manners s a k =
      let t = takes seen wrote s.acts begun now coming s.done a in
      let fresh = of_firsts (λ (link : L). wrote link []) visits (subst (λ l. AllByRecursion (λ (link : L). wrote link []) l) s.accepted t.fresh) in
      let plain = of_firsts (PassesAsItIs seen wrote) visits (subst (λ l. AllByRecursion (PassesAsItIs seen wrote) l) s.accepted t.as_it_is) in
      let h = keeps seen wrote s.acts begun now before s.done k in
      record {
        accepted = t.accepted;
        later = t.later;
        front = t.front;
        accepts = t.accepts;
        firsts = sym (map_view visits) ∙ ap (λ l. map seen l) (sym s.accepted) ∙ t.firsts;
        unwritten = fresh;
        links = h.links;
        kept = h.kept;
        each = each_kept visits s.acts s.returned (manners plain) h.links h.each;
        once = λ number. h.once number ∙ ap (λ (l : List L). length l) (s.returned number);
      }
