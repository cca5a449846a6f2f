-- What the loop did so far, and one thing more.
use Rattle.std.proofs.Common.{◌≡◌, ℕ, ◌+◌, ◌<◌, ◌≤◌, List, [], ◌∷◌, ◌++◌, Bool, true, false, Option, Some, None, length, length-append, get_or, set, refl, sym, ap, subst, ◌∙◌, inl, inr, arith}
use Rattle.std.specs.Prelude.{Result, Ok, Err, OnOk, IfSome, is_some, ◌⊎◌}
use Rattle.std.specs.List.{AllByRecursion}
use Rattle.std.proofs.lemmas.List.{length-map, set-get_or}
use Rattle.std.proofs.lemmas.List.Sums.{sum_by-cons}
use Rattle.std.proofs.lemmas.Bool.{false≢true}
use Rattle.session_model.specs.Meaning.{Meaning}
use Rattle.session_core.specs.History.{Past}
use Rattle.px_link.specs.Link.{Seen}
use Rattle.px_peer.specs.declared.Pair.{Pair}
use Rattle.px_link.specs.Net.{Place, NetSeen, Keeps}
use Rattle.htx_drive.specs.Machine.{CoreSeen}
use Rattle.htx_drive.specs.Weave.State.{IsReady}
use Rattle.px_run.specs.Callers.{CameBack}
use Rattle.px_run.specs.Lines.{Ended, lines_of, ended_in, ended_by, says_of, tells_of, Writes}
use Rattle.px_run.specs.Log.{MoreLines}
use Rattle.px_run.specs.History.{Visit, Accepts, AcceptsNone, Does, new_visit, numbered, change_numbered, given_back, link_of, links_back, open_in, count_open, IsVisit, IsLogged, EndsByItself, Story}
use Rattle.px_run.specs.Served.{had_memory, WritesLines, HasOutcome, ServedMany}
use Rattle.px_run.specs.Connection.{IsFreshFor}
use Rattle.px_run.specs.Hall.{IsOf, AllStand, AllAsked, Advances, Goes, IsHere, MayGiveBack, GaveUpAt, taken_at, count_taken}
use Rattle.px_run.specs.declared.plan.RunFault.{RunFault}
use Rattle.px_run.specs.declared.plan.RunFault.TheVariants as faults
use Rattle.px_run.specs.declared.connection.Connection.{Connection}
use Rattle.px_run.specs.declared.connection.Looked.{Looked}
use Rattle.px_run.specs.declared.connection.Looked.TheVariants as looks
use Rattle.px_run.specs.declared.hall.Hall.{Hall}
use Rattle.px_run.specs.declared.lines.Output.TheVariants as outputs
use Rattle.px_run.proofs.Sets.{all_more}
use Rattle.px_run.proofs.Halls.{taken_set, taken_pushed}
use Rattle.px_run.proofs.ToldSo.{lines_more, ended_more, keeps_more, keeps_changed, told_kept, told_more}
use Rattle.px_run.proofs.Numbers.{num_map, num_get, none_is, here_set, here_at, here_more, here_last, here_within}
use Rattle.px_run.proofs.Callers.{came_back}
use Rattle.px_run.proofs.Manners.{back_manner}
use Rattle.px_run.proofs.Tellings.{PassesAsItIs, tells as tells_all}
use Rattle.px_run.proofs.Stays.{stand_asked, stand_back, stand_none, itself_back}
use Rattle.px_run.proofs.AskedAll.{all_asked_by}
use Rattle.px_run.proofs.Texts.{has_outcome, writes_as, writes_open, writes_weaker, writes_none, writes_front, writes_lines}
use Rattle.px_run.proofs.Acts.{story_none, story_fails, story_accepts, story_ends, story_back}
use Rattle.px_run.specs.declared.plan.Opening.{Opening}

module _ {C L N : Type 0} (M : Option Pair → Meaning) (stands : Option Pair → C → Past → Type 0) (sees : C → CoreSeen) (sound rested : C → Type 0) (seen : L → Seen) (wrote : L → List ℕ → Type 0) (tells : L → Option Pair → Type 0) (accepts_header logs : Bool) (opening : Opening) (sees_net : N → NetSeen) (to : Place) (begun : NetSeen) (writes : ℕ) (before : Option (List ℕ)) where
  -- links were asked
  pub goes_asked : (fair whole : Bool) (now : NetSeen) (writes_now : ℕ) (after : Option (List ℕ)) (old new : Hall C L N) → AllAsked seen wrote sees_net old new
      → Goes M stands sees sound rested seen wrote tells accepts_header logs opening sees_net to fair whole begun now writes writes_now before after old → Goes M stands sees sound rested seen wrote tells accepts_header logs opening sees_net to fair whole begun now writes writes_now before after new
  goes_asked fair whole now writes_now after old new a g =
      record {
        visits = g.visits;
        said = g.said;
        all = stand_asked M stands sees sound rested seen wrote tells accepts_header opening sees_net to g.visits old.places.items new.places.items old.sets.items new.sets.items a.each a.taken a.sets g.all;
        accepted = a.accepted ∙ g.accepted;
        story = g.story;
        itself = g.itself;
        written = writes_open whole old.output new.output writes writes_now before after (lines_of g.said) (sym a.output) g.written;
        told_so = g.told_so;
      }

  pub goes_weaker : (fair whole : Bool) (now : NetSeen) (writes_now : ℕ) (after : Option (List ℕ)) (hall : Hall C L N) → Goes M stands sees sound rested seen wrote tells accepts_header logs opening sees_net to true true begun now writes writes_now before after hall
      → Goes M stands sees sound rested seen wrote tells accepts_header logs opening sees_net to fair whole begun now writes writes_now before after hall
  goes_weaker fair whole now writes_now after hall g =
      record { visits = g.visits; said = g.said; all = g.all; accepted = g.accepted; story = g.story; itself = λ e. g.itself refl; written = writes_weaker whole hall.output writes writes_now before after (lines_of g.said) g.written; told_so = g.told_so }

  -- one was looked at, and its line written
  pub goes_looked : (good : Bool) (now : NetSeen) (writes_then writes_now : ℕ) (between after : Option (List ℕ)) (old new : Hall C L N) (looked : Looked)
      → (g : Goes M stands sees sound rested seen wrote tells accepts_header logs opening sees_net to true true begun now writes writes_then before between old)
      → (b : List (Visit L N)) × Advances looked g.visits b × AllStand M stands sees sound rested seen wrote tells accepts_header opening sees_net to b new.places.items new.sets.items
      → new.accepted ≡ old.accepted → (good ≡ true → looked ≡ looks.Lost → ⊥)
      → (told : List ℕ) → MoreLines (IsLogged M stands sees seen wrote tells accepts_header logs opening sees_net to g.visits) [] told
      → ((text : List ℕ) → Writes true old.output writes writes_then before between text → Writes good new.output writes writes_now before after ((text ++ told) ++ lines_of (says_of (ended_by looked))))
      → Goes M stands sees sound rested seen wrote tells accepts_header logs opening sees_net to good good begun now writes writes_now before after new
  goes_looked good now writes_then writes_now between after old new looked g s same kept told more write =
      let a = s.1 in
      let many : length s.0 ≡ length g.visits = sym (length-map s.0 (λ (v : Visit L N). v.first)) ∙ ap (λ l. length l) a.firsts ∙ length-map g.visits (λ (v : Visit L N). v.first) in
      record {
        visits = s.0;
        said = g.said ++ (tells_of more.entries ++ says_of (ended_by looked));
        all = s.2;
        accepted = same ∙ g.accepted ∙ sym many;
        story = subst (λ (l : List Ended). Story seen wrote begun now s.0 l) (sym (ended_more g.said more.entries (ended_by looked))) (story_ends seen wrote begun now g.visits s.0 (ended_in g.said) looked a g.story);
        itself = λ e. a.fair (kept e) (g.itself refl);
        written =
            writes_as good new.output writes writes_now before after ((lines_of g.said ++ told) ++ lines_of (says_of (ended_by looked))) (lines_of (g.said ++ (tells_of more.entries ++ says_of (ended_by looked))))
            (ap (λ l. (lines_of g.said ++ l) ++ lines_of (says_of (ended_by looked))) more.text ∙ sym (lines_more g.said more.entries (ended_by looked))) (write (lines_of g.said) g.written);
        told_so = told_more M stands sees seen wrote tells accepts_header logs opening sees_net to g.visits s.0 a.kept g.said more.entries (ended_by looked) more.each g.told_so;
      }

  -- an accept failed, or wanted memory
  pub goes_fails : (old_net net : NetSeen) (writes_now : ℕ) (after : Option (List ℕ)) (hall : Hall C L N) → Does seen wrote AcceptsNone old_net net → Goes M stands sees sound rested seen wrote tells accepts_header logs opening sees_net to true true begun old_net writes writes_now before after hall
      → Goes M stands sees sound rested seen wrote tells accepts_header logs opening sees_net to true true begun net writes writes_now before after hall
  goes_fails old_net net writes_now after hall d g =
      record { visits = g.visits; said = g.said; all = g.all; accepted = g.accepted; story = story_fails seen wrote begun old_net net g.visits (ended_in g.said) d g.story; itself = g.itself; written = g.written; told_so = g.told_so }

  -- a link was accepted
  pub goes_accepts : (old_net net : NetSeen) (writes_now : ℕ) (after : Option (List ℕ)) (old new : Hall C L N) (link : L) (own : N) → Does seen wrote (Accepts link) old_net net
      → new.accepted ≡ old.accepted + 1 → new.output ≡ old.output
      → ((visits : List (Visit L N)) → old.accepted ≡ length visits → AllStand M stands sees sound rested seen wrote tells accepts_header opening sees_net to visits old.places.items old.sets.items → AllStand M stands sees sound rested seen wrote tells accepts_header opening sees_net to (visits ++ new_visit link own ∷ []) new.places.items new.sets.items)
      → Goes M stands sees sound rested seen wrote tells accepts_header logs opening sees_net to true true begun old_net writes writes_now before after old → Goes M stands sees sound rested seen wrote tells accepts_header logs opening sees_net to true true begun net writes writes_now before after new
  goes_accepts old_net net writes_now after old new link own d more same stand g =
      let stands_now = stand g.visits g.accepted g.all in
      let visit = new_visit link own in
      record {
        visits = g.visits ++ visit ∷ [];
        said = g.said;
        all = stands_now;
        accepted = let many = length-append g.visits (visit ∷ []) in let one : length (visit ∷ []) ≡ 1 = refl in let was = g.accepted in omega (arith, many, one, was, more);
        story = story_accepts seen wrote begun old_net net g.visits (ended_in g.said) link own d g.story;
        itself = λ e. all_more EndsByItself g.visits visit (g.itself e) (record { over = λ back. absurd (false≢true back); kept_on = λ came. absurd (false≢true came) });
        written = writes_open true old.output new.output writes writes_now before after (lines_of g.said) (sym same) g.written;
        told_so = told_kept M stands sees seen wrote tells accepts_header logs opening sees_net to g.visits (g.visits ++ visit ∷ []) (keeps_more g.visits (visit ∷ [])) g.said g.told_so;
      }

  -- the link of the connection at a place was given back, and those that are left are elsewhere
  pub goes_back : (fair still whole : Bool) (old_net net : NetSeen) (writes_now : ℕ) (after : Option (List ℕ)) (old new : Hall C L N) (place : ℕ) (c : Connection C L N) (client : L) (own : N) → IsHere old.places.items place c
      → ((other : ℕ) (d : Connection C L N) → IsHere new.places.items other d → (other ≡ place → ⊥) × IsHere old.places.items other d) → count_taken new.places.items + 1 ≡ count_taken old.places.items
      → new.sets ≡ old.sets → new.accepted ≡ old.accepted → new.output ≡ old.output
      → ((visits : List (Visit L N)) (of : IsOf M stands sees sound rested seen wrote tells accepts_header opening sees_net to visits c) → CameBack M stands sees seen wrote tells accepts_header opening of.visit.first client to (sees_net of.visit.own) (sees_net own) c.conn.ran)
      → Keeps (wrote client) old_net net (seen client) → (still ≡ true → (fair ≡ true) × (is_some c.conn.ran ≡ true))
      → Goes M stands sees sound rested seen wrote tells accepts_header logs opening sees_net to fair whole begun old_net writes writes_now before after old → Goes M stands sees sound rested seen wrote tells accepts_header logs opening sees_net to still whole begun net writes writes_now before after new
  goes_back fair still whole old_net net writes_now after old new place c client own here elsewhere fewer sets same output came keeps ends g =
      let of = g.all.placed place c here in
      let next = change_numbered (given_back client own) c.number g.visits in
      let many : length next ≡ length g.visits = sym (length-map next (λ (v : Visit L N). v.first)) ∙ ap (λ l. length l) (num_map (λ (v : Visit L N). v.first) (given_back client own) (λ v. refl) g.visits c.number) ∙ length-map g.visits (λ (v : Visit L N). v.first) in
      let P : List C → Type 0 = λ l. AllStand M stands sees sound rested seen wrote tells accepts_header opening sees_net to next new.places.items l in
      record {
        visits = next;
        said = g.said;
        all = subst P (ap (λ s. s.items) (sym sets)) (stand_back M stands sees sound rested seen wrote tells accepts_header opening sees_net to g.visits old.places.items new.places.items old.sets.items place c client own here elsewhere fewer (came g.visits) g.all);
        accepted = same ∙ g.accepted ∙ sym many;
        story = story_back seen wrote begun old_net net g.visits (ended_in g.said) c.number of.visit client own of.is of.here keeps g.story;
        itself = λ e. let k = ends e in itself_back M stands sees sound rested seen wrote tells accepts_header opening sees_net to g.visits c client own k.1 of (g.itself k.0);
        written = writes_open whole old.output new.output writes writes_now before after (lines_of g.said) (sym output) g.written;
        told_so = told_kept M stands sees seen wrote tells accepts_header logs opening sees_net to g.visits next (keeps_changed (given_back client own) (λ v. refl) (λ v. refl) c.number g.visits) g.said g.told_so;
      }

  -- the connection at a place left it, or nothing was done
  pub goes_gave : (old_net net : NetSeen) (writes_now : ℕ) (after : Option (List ℕ)) (old new : Hall C L N) (place : ℕ) (was now : Option (Connection C L N)) → place < length old.places.items → get_or old.places.items place was ≡ was
      → new.places.items ≡ set old.places.items place now → new.sets ≡ old.sets → new.accepted ≡ old.accepted → new.output ≡ old.output → MayGiveBack seen wrote old_net net was now
      → Goes M stands sees sound rested seen wrote tells accepts_header logs opening sees_net to true true begun old_net writes writes_now before after old → Goes M stands sees sound rested seen wrote tells accepts_header logs opening sees_net to true true begun net writes writes_now before after new
  goes_gave old_net net writes_now after old new place was now w e places sets same output (inl k) g =
      let c = k.connection in
      let taken = taken_set old.places.items place now was w in
      let one : taken_at (get_or old.places.items place was) ≡ 1 = ap (λ (o : Option (Connection C L N)). taken_at o) (e ∙ k.was) in
      let none : taken_at now ≡ 0 = ap (λ (o : Option (Connection C L N)). taken_at o) k.none in
      let all : count_taken new.places.items ≡ count_taken (set old.places.items place now) = ap (λ (l : List (Option (Connection C L N))). count_taken l) places in
      goes_back true true true old_net net writes_now after old new place c c.conn.client c.conn.net (here_at old.places.items place was c w e k.was)
      (λ other d h. elim (here_set old.places.items place other now d (subst (λ (l : List (Option (Connection C L N))). IsHere l other d) places h)) [
        | inl q ↦ absurd (none_is d (sym k.none ∙ q.1))
        | inr q ↦ q
      ])
      (omega (arith, taken, one, none, all)) sets same output
      (λ visits of. came_back M stands sees sound rested seen wrote tells accepts_header opening sees_net of.visit.first to (sees_net of.visit.own) c.caller c.conn.client c.conn.server (sees_net c.conn.net) c.conn.ran c.core k.ended of.at)
      k.keeps (λ t. (refl, k.ended)) g
  goes_gave old_net net writes_now after old new place was now w e places sets same output (inr k) g =
      let is : new.places.items ≡ old.places.items = places ∙ ap (λ (o : Option (Connection C L N)). set old.places.items place o) (k.0 ∙ sym e) ∙ set-get_or old.places.items place was in
      let P : NetSeen → Type 0 = λ n. Goes M stands sees sound rested seen wrote tells accepts_header logs opening sees_net to true true begun n writes writes_now before after new in
      subst P (sym k.1) (goes_asked true true old_net writes_now after old new
      (all_asked_by seen wrote sees_net old new (λ place c h. subst (λ (l : List (Option (Connection C L N))). IsHere l place c) is h) (ap (λ (l : List (Option (Connection C L N))). count_taken l) is) sets same output) g)

  pub goes_unfair : (fair whole : Bool) (now : NetSeen) (writes_now : ℕ) (after : Option (List ℕ)) (hall : Hall C L N) → Goes M stands sees sound rested seen wrote tells accepts_header logs opening sees_net to fair whole begun now writes writes_now before after hall
      → Goes M stands sees sound rested seen wrote tells accepts_header logs opening sees_net to false whole begun now writes writes_now before after hall
  goes_unfair fair whole now writes_now after hall g =
      record { visits = g.visits; said = g.said; all = g.all; accepted = g.accepted; story = g.story; itself = λ e. absurd (false≢true e); written = g.written; told_so = g.told_so }

  -- the connection at the last place was given up
  pub goes_left : (fair whole : Bool) (old_net net : NetSeen) (writes_now : ℕ) (after : Option (List ℕ)) (old new : Hall C L N) (at : Option (Connection C L N)) → old.places.items ≡ new.places.items ++ at ∷ []
      → new.sets ≡ old.sets → new.accepted ≡ old.accepted → new.output ≡ old.output → GaveUpAt M stands sees sound rested seen wrote tells accepts_header opening sees_net to old_net net at
      → Goes M stands sees sound rested seen wrote tells accepts_header logs opening sees_net to fair whole begun old_net writes writes_now before after old → Goes M stands sees sound rested seen wrote tells accepts_header logs opening sees_net to false whole begun net writes writes_now before after new
  goes_left fair whole old_net net writes_now after old new None places sets same output left g =
      let P : NetSeen → Type 0 = λ n. Goes M stands sees sound rested seen wrote tells accepts_header logs opening sees_net to false whole begun n writes writes_now before after new in
      let nothing : Option (Connection C L N) = None in
      let pushed = taken_pushed new.places.items nothing in
      let all : count_taken old.places.items ≡ count_taken (new.places.items ++ nothing ∷ []) = ap (λ (l : List (Option (Connection C L N))). count_taken l) places in
      subst P (sym left) (goes_unfair fair whole old_net writes_now after new (goes_asked fair whole old_net writes_now after old new
      (all_asked_by seen wrote sees_net old new (λ place c h. subst (λ (l : List (Option (Connection C L N))). IsHere l place c) (sym places) (here_more new.places.items (None ∷ []) place c h)) (omega (arith, pushed, all)) sets same output) g))
  goes_left fair whole old_net net writes_now after old new (Some c) places sets same output left g =
      let pushed = taken_pushed new.places.items (Some c) in
      let all : count_taken old.places.items ≡ count_taken (new.places.items ++ Some c ∷ []) = ap (λ (l : List (Option (Connection C L N))). count_taken l) places in
      goes_back fair false whole old_net net writes_now after old new (length new.places.items) c left.client left.own
      (subst (λ (l : List (Option (Connection C L N))). IsHere l (length new.places.items) c) (sym places) (here_last new.places.items c))
      (λ other d h. (λ same. let within = here_within new.places.items other d h in omega (arith, within, same), subst (λ (l : List (Option (Connection C L N))). IsHere l other d) (sym places) (here_more new.places.items (Some c ∷ []) other d h)))
      (omega (arith, pushed, all)) sets same output left.came left.keeps (λ t. absurd (false≢true t)) g

  -- the loop begins
  pub goes_begins : (now : NetSeen) → now ≡ begun → (sets : List C) (hall : Hall C L N) → hall.sets.items ≡ sets → count_taken hall.places.items ≡ 0 → hall.accepted ≡ 0 → hall.output ≡ outputs.Open → AllByRecursion (IsReady sees sound) sets → AllByRecursion (IsFreshFor stands) sets
      → Goes M stands sees sound rested seen wrote tells accepts_header logs opening sees_net to true true begun now writes writes before before hall
  goes_begins now same sets hall same_sets none accepted output ready fresh =
      let P : NetSeen → Type 0 = λ n. Goes M stands sees sound rested seen wrote tells accepts_header logs opening sees_net to true true begun n writes writes before before hall in
      let ready_here : AllByRecursion (IsReady sees sound) hall.sets.items = subst (λ l. AllByRecursion (IsReady sees sound) l) (sym same_sets) ready in
      let fresh_here : AllByRecursion (IsFreshFor stands) hall.sets.items = subst (λ l. AllByRecursion (IsFreshFor stands) l) (sym same_sets) fresh in
      subst P (sym same) (record {
        visits = [];
        said = [];
        all = stand_none M stands sees sound rested seen wrote tells accepts_header opening sees_net to hall.places.items hall.sets.items none ready_here fresh_here;
        accepted = accepted;
        story = story_none seen wrote begun;
        itself = λ e. tt;
        written = writes_open true outputs.Open hall.output writes writes before before [] (sym output) (writes_none writes before);
        told_so = tt;
      })

  -- ---- the loop is over

  within_most : (most : Option ℕ) (accepted many : ℕ) → accepted ≡ many → IfSome most (λ (count : ℕ). accepted ≤ count) → IfSome most (λ (count : ℕ). many ≤ count)
  within_most None accepted many e w = tt
  within_most (Some count) accepted many e w = omega (arith, e, w)

  all_of : (count accepted many : ℕ) (accepts_none : Type 0) → accepted ≡ many → accepted ≤ count → (count ≤ accepted) ⊎ accepts_none → (many ≡ count) ⊎ accepts_none
  all_of count accepted many accepts_none e w (inl h) = inl (omega (arith, e, w, h))
  all_of count accepted many accepts_none e w (inr h) = inr h

  as_many_by : (answer : Result (Unit {0}) RunFault) (most : Option ℕ) (accepted many : ℕ) (accepts_none : Type 0) → accepted ≡ many → IfSome most (λ (count : ℕ). accepted ≤ count) → OnOk answer (IfSome most (λ (count : ℕ). (count ≤ accepted) ⊎ accepts_none))
      → OnOk answer (IfSome most (λ (count : ℕ). (many ≡ count) ⊎ accepts_none))
  as_many_by (Ok done) None accepted many accepts_none e w h = tt
  as_many_by (Ok done) (Some count) accepted many accepts_none e w h = all_of count accepted many accepts_none e w h
  as_many_by (Err fault) most accepted many accepts_none e w h = tt

  -- it isn't open
  not_open : (back : Option (L × N)) → open_in back ≡ 0 → is_some back ≡ true
  not_open None e = absurd (omega (arith, e))
  not_open (Some back) e = refl

  all_given_back : (visits : List (Visit L N)) → count_open visits ≡ 0 → AllByRecursion (λ (visit : Visit L N). is_some visit.back ≡ true) visits
  all_given_back [] e = tt
  all_given_back (visit ∷ visits) e =
      let all : count_open (visit ∷ visits) ≡ open_in visit.back + count_open visits = sum_by-cons (λ (v : Visit L N). open_in v.back) visit visits in
      (not_open visit.back (omega (arith, all, e)), all_given_back visits (omega (arith, all, e)))

  all_outcomes : (visits : List (Visit L N)) → AllByRecursion (λ (visit : Visit L N). is_some visit.back ≡ true) visits → AllByRecursion EndsByItself visits → AllByRecursion HasOutcome visits
  all_outcomes [] b s = tt
  all_outcomes (visit ∷ visits) b s = let it = s.0 in let came = it.over b.0 in (has_outcome visit.came came (it.kept_on came), all_outcomes visits b.1 s.1)

  on_ok : (answer : Result (Unit {0}) RunFault) (fair : Bool) (visits : List (Visit L N)) → OnOk answer (fair ≡ true) → AllByRecursion (λ (visit : Visit L N). is_some visit.back ≡ true) visits → (fair ≡ true → AllByRecursion EndsByItself visits) → OnOk answer (AllByRecursion HasOutcome visits)
  on_ok (Ok done) fair visits o b s = all_outcomes visits b (s o)
  on_ok (Err fault) fair visits o b s = tt

  links_as_it_is : (visits : List (Visit L N)) (number : ℕ) (o : Option (Visit L N)) → numbered number visits ≡ o → AllByRecursion (IsVisit M stands sees seen wrote tells accepts_header opening sees_net to) visits → AllByRecursion (λ (visit : Visit L N). PassesAsItIs seen wrote visit.first) visits
      → AllByRecursion (PassesAsItIs seen wrote) (links_back o)
  links_as_it_is visits number None e all plain = tt
  links_as_it_is visits number (Some visit) e all plain =
      back_as_it_is visit visit.back refl (num_get (IsVisit M stands sees seen wrote tells accepts_header opening sees_net to) visits number visit e all) (num_get (λ (v : Visit L N). PassesAsItIs seen wrote v.first) visits number visit e plain)
    where
      back_as_it_is : (visit : Visit L N) (back : Option (L × N)) → visit.back ≡ back → IsVisit M stands sees seen wrote tells accepts_header opening sees_net to visit → PassesAsItIs seen wrote visit.first → AllByRecursion (PassesAsItIs seen wrote) (link_of back)
      back_as_it_is visit None e it plain = tt
      back_as_it_is visit (Some back) e it plain =
          let P : Option (L × N) → Type 0 = λ o. IfSome o (λ (b : L × N). CameBack M stands sees seen wrote tells accepts_header opening visit.first b.0 to (sees_net visit.own) (sees_net b.1) visit.came) in
          (back_manner M stands sees seen wrote tells accepts_header opening visit.first to (sees_net visit.own) back.0 (sees_net back.1) visit.came (subst P e it.back) ∙ plain, tt)

  pub served_many : (fair whole : Bool) (now : NetSeen) (writes_now : ℕ) (after : Option (List ℕ)) (hall : Hall C L N) (most : Option ℕ) (answer : Result (Unit {0}) RunFault) → count_taken hall.places.items ≡ 0 → whole ≡ had_memory answer → OnOk answer (fair ≡ true)
      → (accepts_none : Type 0) → IfSome most (λ (count : ℕ). hall.accepted ≤ count) → OnOk answer (IfSome most (λ (count : ℕ). (count ≤ hall.accepted) ⊎ accepts_none)) → Goes M stands sees sound rested seen wrote tells accepts_header logs opening sees_net to fair whole begun now writes writes_now before after hall
      → ServedMany M stands sees seen wrote tells accepts_header logs opening sees_net to most accepts_none begun now writes writes_now before after answer
  served_many fair whole now writes_now after hall most answer none memory well accepts_none within many g =
      let s = g.all in
      let back = all_given_back g.visits (s.counted ∙ none) in
      let P : Bool → Type 0 = λ b. WritesLines b writes writes_now before after (lines_of g.said) in
      record {
        visits = g.visits;
        said = g.said;
        story = g.story;
        each = s.each;
        all_back = back;
        outcomes = on_ok answer fair g.visits well back g.itself;
        within = within_most most hall.accepted (length g.visits) g.accepted within;
        as_many = as_many_by answer most hall.accepted (length g.visits) accepts_none g.accepted within many;
        told = λ coming kept a k. tells_all seen wrote begun now g.visits (ended_in g.said) coming kept (λ plain number. links_as_it_is g.visits number (numbered number g.visits) refl s.each plain) g.story a k;
        written = subst P memory (writes_lines whole hall.output writes writes_now before after (lines_of g.said) g.written);
        told_so = g.told_so;
      }

  none_most : (most : Option ℕ) → IfSome most (λ (count : ℕ). 0 ≤ count)
  none_most None = tt
  none_most (Some count) = omega arith

  -- it never began
  pub served_none : (most : Option ℕ) (accepts_none : Type 0) → ServedMany {L = L} {N = N} M stands sees seen wrote tells accepts_header logs opening sees_net to most accepts_none begun begun writes writes before before (Err faults.OutOfMemory)
  served_none most accepts_none =
      record {
        visits = [];
        said = [];
        story = story_none seen wrote begun;
        each = tt;
        all_back = tt;
        outcomes = tt;
        within = none_most most;
        as_many = tt;
        told = λ coming kept a k. tells_all seen wrote begun begun [] [] coming kept (λ plain number. links_as_it_is [] number (numbered number []) refl tt plain) (story_none seen wrote begun) a k;
        written = writes_front outputs.Open writes writes before before [] (writes_none writes before);
        told_so = tt;
      }
