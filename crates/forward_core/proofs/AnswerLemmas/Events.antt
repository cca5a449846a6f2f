-- What peers give and take leaves an answer direction standing for.
use Rattle.std.proofs.Common.{◌≡◌, ℕ, List, [], ◌++◌, Bool, true, false, refl, sym, ap, ◌∙◌, subst, append_assoc, map, if◌then◌else◌}
use Rattle.std.specs.Prelude.{Option, Some, None, is_some, is_none}
use Rattle.http_model.specs.declared.Ending.{Ending}
use Rattle.http_model.specs.declared.Limits.{Limits}
use Rattle.http_model.specs.Head.{Head}
use Rattle.body_filter.specs.declared.filter_spec.FilterSpec.{FilterSpec}
use Rattle.px_sample.specs.Variables.{Variables}
use Rattle.http_rules.specs.declared.config.Config.{Config}
use Rattle.session_model.specs.Asking.{Asker}
use Rattle.http_model.specs.Finish.{finish_interim}
use Rattle.session_model.specs.Answering.{sent_interim}
use Rattle.session_core.specs.History.{Coming, gains, ends}
use Rattle.session_core.specs.Sided.{Saying}
use Rattle.session_core.specs.declared.Told.{Told}
use Rattle.session_core.proofs.PublicLaws.{continues_gains, continues_ends}
use Rattle.lane.specs.Answering.{Exchange, Answers, HeadsCame, BeginsWithInterim, HasFilters, with_bytes, ended_of, phase_of, has_begun, limits_of, shows_last}
use Rattle.lane.specs.declared.response_lane.ResponseLane.{ResponseLane}
use Rattle.forward_core.specs.Answer.Stands.{IsInHand, IsResponse, IsInstead, IsFor, StandsAt}
use Rattle.forward_core.specs.declared.answer.place.Place.{Place}
use Rattle.forward_core.specs.declared.answer.place.Place.TheVariants as place

pub none_of : {A : Type 0} (o : Option A) → is_none o ≡ true → o ≡ None
none_of None e = refl
none_of (Some x) e = absurd (let both : false ≡ true = e in cc both)

-- ---- heads that came

open_not : (o : Option Ending) → o ≡ None → is_some o ≡ true → ⊥
open_not o e s = let both : false ≡ true = sym (ap is_some e) ∙ s in cc both

pub came_more : (asked : Bool) (limits : Limits) (ended : Option Ending) (heads : List Head) (bytes left more : List ℕ) → ended ≡ None → HeadsCame asked limits ended heads bytes left
    → HeadsCame asked limits ended heads (bytes ++ more) (left ++ more)
came_more asked limits ended heads bytes left more open_ h = λ m over.
    subst (λ (xs : List ℕ). BeginsWithInterim asked limits heads xs (λ rest. rest ≡ (left ++ more) ++ m)) (sym (append_assoc bytes more m))
    (subst (λ (xs : List ℕ). BeginsWithInterim asked limits heads (bytes ++ (more ++ m)) (λ rest. rest ≡ xs)) (sym (append_assoc left more m))
    (h (more ++ m) (λ e. absurd (open_not ended open_ e))))

pub came_end : (asked : Bool) (limits : Limits) (ended : Option Ending) (heads : List Head) (bytes left : List ℕ) (how : Ending) → ended ≡ None → HeadsCame asked limits ended heads bytes left
    → HeadsCame asked limits (Some how) heads bytes left
came_end asked limits ended heads bytes left how open_ h = λ m over. h m (λ e. absurd (open_not ended open_ e))

-- ---- the last that answers

-- it is of the head that was read and of what answers alone
pub response_of : (cfg : Config) (asker : Asker) (before now : Variables) (e f : Exchange) → f.pending ≡ e.pending → f.last ≡ e.last → IsResponse cfg asker before now e → IsResponse cfg asker before now f
response_of cfg asker before now e f pending last r =
    record {
      received = r.received;
      at = r.at;
      head = r.head;
      pending = pending ∙ r.pending;
      is_final = r.is_final;
      rules = r.rules;
      short = r.short;
      after = r.after;
      fits = r.fits;
      last = last ∙ r.last;
    }

instead_more : (cfg : Config) (asker : Asker) (before : Variables) (server : Coming) (so : Told) (now : Variables) (e : Exchange) (more : List ℕ) → server.ending ≡ None → IsInstead cfg asker before server so now e
    → IsInstead cfg asker before (gains server more) so now (with_bytes e more)
instead_more cfg asker before server so now e more open_ i =
    record {
      head = i.head;
      body = i.body;
      line = i.line;
      last = i.last;
      left = i.left ++ more;
      came = came_more asker.head_asked cfg.limits server.ending e.read e.bytes i.left more open_ i.came;
      decides = λ rest c. i.decides rest (continues_gains (record { bytes = i.left; ending = server.ending }) more rest open_ c);
    }

instead_ends : (cfg : Config) (asker : Asker) (before : Variables) (server : Coming) (so : Told) (now : Variables) (e : Exchange) (how : Ending) → server.ending ≡ None → IsInstead cfg asker before server so now e
    → IsInstead cfg asker before (ends server how) so now e
instead_ends cfg asker before server so now e how open_ i =
    record {
      head = i.head;
      body = i.body;
      line = i.line;
      last = i.last;
      left = i.left;
      came = came_end asker.head_asked cfg.limits server.ending e.read e.bytes i.left how open_ i.came;
      decides = λ rest c. i.decides rest (continues_ends (record { bytes = i.left; ending = server.ending }) how rest open_ c);
    }

-- the same, of an exchange that differs in what was put out
pub instead_of : (cfg : Config) (asker : Asker) (before : Variables) (server : Coming) (so : Told) (now : Variables) (e f : Exchange) → f.last ≡ e.last → f.read ≡ e.read → f.bytes ≡ e.bytes → IsInstead cfg asker before server so now e
    → IsInstead cfg asker before server so now f
instead_of cfg asker before server so now e f last read bytes i =
    record {
      head = i.head;
      body = i.body;
      line = i.line;
      last = last ∙ i.last;
      left = i.left;
      came = subst (λ (heads : List Head). HeadsCame asker.head_asked cfg.limits server.ending heads f.bytes i.left) (sym read)
          (subst (λ (xs : List ℕ). HeadsCame asker.head_asked cfg.limits server.ending e.read xs i.left) (sym bytes) i.came);
      decides = i.decides;
    }

-- ---- bytes come

-- what a lane that bytes come to keeps
pub record Takes (old new : ResponseLane) (more : List ℕ) : Type 0 where
  pub answers : (e : Exchange) → Answers old e → Answers new (with_bytes e more)
  pub is_open : ended_of old ≡ None
  pub ended : ended_of new ≡ ended_of old
  pub phase : phase_of new ≡ phase_of old
  pub begun : has_begun new ≡ has_begun old

in_hand_more : (asker : Asker) (old new : ResponseLane) (server : Coming) (put : List ℕ) (e : Exchange) (more : List ℕ) → Takes old new more → IsInHand asker old server put e → IsInHand asker new (gains server more) put (with_bytes e more)
in_hand_more asker old new server put e more t h =
    record { answers = t.answers e h.answers; asked = h.asked; bytes = ap (λ xs. xs ++ more) h.bytes; ending = t.ended ∙ h.ending; passed = h.passed; put_is = h.put_is }

server_open : (asker : Asker) (old new : ResponseLane) (server : Coming) (put : List ℕ) (e : Exchange) (more : List ℕ) → Takes old new more → IsInHand asker old server put e → server.ending ≡ None
server_open asker old new server put e more t h = sym h.ending ∙ t.is_open

pub takes_at : (at : Place) (status : Option ℕ) (cfg : Config) (asker : Asker) (before : Variables) (old new : ResponseLane) (server : Coming) (put : List ℕ) (now : Variables) (saying : Saying) (more : List ℕ) → Takes old new more
    → StandsAt at status cfg asker before old server put now saying → StandsAt at status cfg asker before new (gains server more) put now saying
takes_at place.Idle status cfg asker before old new server put now saying more t s = (with_bytes s.0 more, t.answers s.0 s.1, record { put = s.2.put; passed = s.2.passed }, s.3)
takes_at place.Heads status cfg asker before old new server put now saying more t s = (with_bytes s.0 more, in_hand_more asker old new server put s.0 more t s.1, s.2)
takes_at place.Response status cfg asker before old new server put now saying more t s =
    (with_bytes s.0 more, in_hand_more asker old new server put s.0 more t s.1, record { shows = ap shows_last t.phase ∙ s.2.shows; told = s.2.told }, response_of cfg asker before now s.0 (with_bytes s.0 more) refl refl s.3)
takes_at place.Closing status cfg asker before old new server put now saying more t s =
    (with_bytes s.0 more, in_hand_more asker old new server put s.0 more t s.1, record { shows = ap shows_last t.phase ∙ s.2.shows; told = s.2.told }, instead_more cfg asker before server _ now s.0 more (server_open asker old new server put s.0 more t s.1) s.3)
takes_at place.Keeping status cfg asker before old new server put now saying more t s =
    (with_bytes s.0 more, in_hand_more asker old new server put s.0 more t s.1, record { shows = ap shows_last t.phase ∙ s.2.shows; told = s.2.told }, instead_more cfg asker before server _ now s.0 more (server_open asker old new server put s.0 more t s.1) s.3)
takes_at place.Saying status cfg asker before old new server put now saying more t s =
    (with_bytes s.0 more, t.answers s.0 s.1, record { shows = ap shows_last t.phase ∙ s.2.shows; told = s.2.told }, record { head = s.3.head; body = s.3.body; no_body = s.3.no_body; line = s.3.line; last = s.3.last; text = s.3.text; said = s.3.said }, t.begun ∙ s.4)

-- ---- a stream ends, and bytes are taken

-- what a lane keeps whose server's stream ends
pub record Ends (old new : ResponseLane) (how : Ending) : Type 0 where
  pub answers : (e : Exchange) → Answers old e → Answers new e
  pub is_open : ended_of old ≡ None
  pub ended : ended_of new ≡ Some how
  pub phase : phase_of new ≡ phase_of old
  pub begun : has_begun new ≡ has_begun old

in_hand_ends : (asker : Asker) (old new : ResponseLane) (server : Coming) (put : List ℕ) (e : Exchange) (how : Ending) → Ends old new how → IsInHand asker old server put e → IsInHand asker new (ends server how) put e
in_hand_ends asker old new server put e how t h = record { answers = t.answers e h.answers; asked = h.asked; bytes = h.bytes; ending = t.ended; passed = h.passed; put_is = h.put_is }

pub ends_at : (at : Place) (status : Option ℕ) (cfg : Config) (asker : Asker) (before : Variables) (old new : ResponseLane) (server : Coming) (put : List ℕ) (now : Variables) (saying : Saying) (how : Ending) → Ends old new how
    → StandsAt at status cfg asker before old server put now saying → StandsAt at status cfg asker before new (ends server how) put now saying
ends_at place.Idle status cfg asker before old new server put now saying how t s = (s.0, t.answers s.0 s.1, s.2, s.3)
ends_at place.Heads status cfg asker before old new server put now saying how t s = (s.0, in_hand_ends asker old new server put s.0 how t s.1, s.2)
ends_at place.Response status cfg asker before old new server put now saying how t s = (s.0, in_hand_ends asker old new server put s.0 how t s.1, record { shows = ap shows_last t.phase ∙ s.2.shows; told = s.2.told }, s.3)
ends_at place.Closing status cfg asker before old new server put now saying how t s =
    (s.0, in_hand_ends asker old new server put s.0 how t s.1, record { shows = ap shows_last t.phase ∙ s.2.shows; told = s.2.told }, instead_ends cfg asker before server _ now s.0 how (sym s.1.ending ∙ t.is_open) s.3)
ends_at place.Keeping status cfg asker before old new server put now saying how t s =
    (s.0, in_hand_ends asker old new server put s.0 how t s.1, record { shows = ap shows_last t.phase ∙ s.2.shows; told = s.2.told }, instead_ends cfg asker before server _ now s.0 how (sym s.1.ending ∙ t.is_open) s.3)
ends_at place.Saying status cfg asker before old new server put now saying how t s = (s.0, t.answers s.0 s.1, record { shows = ap shows_last t.phase ∙ s.2.shows; told = s.2.told }, s.3, t.begun ∙ s.4)

-- what a lane keeps of whose output bytes are taken
pub record Took (old new : ResponseLane) : Type 0 where
  pub answers : (e : Exchange) → Answers old e → Answers new e
  pub ended : ended_of new ≡ ended_of old
  pub phase : phase_of new ≡ phase_of old
  pub begun : has_begun new ≡ has_begun old

in_hand_took : (asker : Asker) (old new : ResponseLane) (server : Coming) (put : List ℕ) (e : Exchange) → Took old new → IsInHand asker old server put e → IsInHand asker new server put e
in_hand_took asker old new server put e t h = record { answers = t.answers e h.answers; asked = h.asked; bytes = h.bytes; ending = t.ended ∙ h.ending; passed = h.passed; put_is = h.put_is }

pub took_at : (at : Place) (status : Option ℕ) (cfg : Config) (asker : Asker) (before : Variables) (old new : ResponseLane) (server : Coming) (put : List ℕ) (now : Variables) (saying : Saying) → Took old new
    → StandsAt at status cfg asker before old server put now saying → StandsAt at status cfg asker before new server put now saying
took_at place.Idle status cfg asker before old new server put now saying t s = (s.0, t.answers s.0 s.1, s.2, s.3)
took_at place.Heads status cfg asker before old new server put now saying t s = (s.0, in_hand_took asker old new server put s.0 t s.1, s.2)
took_at place.Response status cfg asker before old new server put now saying t s = (s.0, in_hand_took asker old new server put s.0 t s.1, record { shows = ap shows_last t.phase ∙ s.2.shows; told = s.2.told }, s.3)
took_at place.Closing status cfg asker before old new server put now saying t s = (s.0, in_hand_took asker old new server put s.0 t s.1, record { shows = ap shows_last t.phase ∙ s.2.shows; told = s.2.told }, s.3)
took_at place.Keeping status cfg asker before old new server put now saying t s = (s.0, in_hand_took asker old new server put s.0 t s.1, record { shows = ap shows_last t.phase ∙ s.2.shows; told = s.2.told }, s.3)
took_at place.Saying status cfg asker before old new server put now saying t s = (s.0, t.answers s.0 s.1, record { shows = ap shows_last t.phase ∙ s.2.shows; told = s.2.told }, s.3, t.begun ∙ s.4)

-- ---- its configuration

pub for_new : (cfg : Config) (old new : ResponseLane) → limits_of new ≡ limits_of old → ((filters : List FilterSpec) → HasFilters old filters → HasFilters new filters) → IsFor cfg old → IsFor cfg new
for_new cfg old new limits filters for = record { limits = limits ∙ for.limits; filters = filters cfg.res_filters for.filters }

-- no head is no head to any client
pub none_sent : (asker : Asker) → sent_interim asker [] ≡ []
none_sent asker = by asker.is_http_11
  where
    by : (eleven : Bool) → (if eleven then map finish_interim [] else []) ≡ []
    by true = refl
    by false = refl
