-- A step of a server's answer.
use Rattle.std.proofs.Common.{◌≡◌, ◌≢◌, ◌<◌, ◌⊎◌, inl, inr, ℕ, List, [], ◌++◌, Bool, true, false, refl, sym, ap, ◌∙◌, subst, append_assoc}
use Rattle.std.specs.Prelude.{Result, Ok, Err, OnOk, is_none}
use Rattle.std.proofs.lemmas.List.{append-nil}
use Rattle.px_sample.specs.Variables.{Variables}
use Rattle.http_rules.specs.declared.config.Config.{Config}
use Rattle.http_rules.specs.Lives.{answering}
use Rattle.session_core.specs.History.{Coming}
use Rattle.session_core.specs.Sided.{Asking, asker_in, Saying}
use Rattle.session_core.specs.declared.Told.TheVariants as told
use Rattle.lane.specs.Answering.{source_of}
use Rattle.forward_core.specs.Answer.Seen.{seen, place_of, size_of, window_size_of, is_last, told_at}
use Rattle.forward_core.specs.Answer.Said.{PutsMore}
use Rattle.forward_core.specs.Answer.Stands.{AnswerStands, HeadRests, RestsAt, FitsAt, IsSoundSide, is_serving}
use Rattle.forward_core.specs.Answer.Stepping.{VarsAt, StepsOn}
use Rattle.forward_core.specs.Answer.Hearing.{IsBetween, Hears, WaitsForHead}
use Rattle.forward_core.specs.Answer.Judging.{Finds, GoesOut, Decides, KeepsOn}
use Rattle.forward_core.specs.declared.answer.hearing.Heard.TheVariants as heard
use Rattle.forward_core.specs.declared.answer.place.Place.{Place}
use Rattle.forward_core.specs.declared.answer.place.Place.TheVariants as place
use Rattle.forward_core.specs.declared.answer.side.AnswerSide.{AnswerSide}
use Rattle.forward_core.proofs.AnswerLemmas.Answering.{last_serves}
use Rattle.forward_core.proofs.AnswerLemmas.Views.{at_place}

-- ---- places

serves_heads : (at : Place) → is_serving at ≡ true → is_last at ≡ false → at ≡ place.Heads
serves_heads place.Idle e off = absurd (let both : false ≡ true = e in cc both)
serves_heads place.Heads e off = refl
serves_heads place.Response e off = absurd (let both : true ≡ false = off in cc both)
serves_heads place.Closing e off = absurd (let both : true ≡ false = off in cc both)
serves_heads place.Keeping e off = absurd (let both : true ≡ false = off in cc both)
serves_heads place.Saying e off = absurd (let both : false ≡ true = e in cc both)

vars_last : (at : Place) (before now vars : Variables) → is_last at ≡ true → vars ≡ now → VarsAt at before now vars
vars_last place.Idle before now vars last e = absurd (let both : false ≡ true = last in cc both)
vars_last place.Heads before now vars last e = absurd (let both : false ≡ true = last in cc both)
vars_last place.Response before now vars last e = e
vars_last place.Closing before now vars last e = e
vars_last place.Keeping before now vars last e = e
vars_last place.Saying before now vars last e = absurd (let both : false ≡ true = last in cc both)

never_both : (at : Place) → is_last at ≡ true → at ≡ place.Heads → ⊥
never_both at last heads = let both : true ≡ false = sym last ∙ ap is_last heads in cc both

-- ---- what is decided

-- nothing, where the last goes out already
pub decides_none : (cfg : Config) (side : AnswerSide) (asking : Asking Variables) (server : Coming) (put : List ℕ) (now : Variables) (saying : Saying) (vars : Variables) → AnswerStands cfg side asking server put now saying
    → VarsAt (place_of side) (answering asking.vars) now vars → place_of side ≢ place.Heads → Decides cfg side side asking server put saying vars
decides_none cfg side asking server put now saying vars s at off =
    record {
      put = [];
      behind = now;
      stands = subst (λ (xs : List ℕ). AnswerStands cfg side asking server xs now saying) (sym (append-nil put)) s;
      vars = at;
      window = sym (append-nil (seen side).window);
      waits = λ heads. absurd (off heads);
    }

-- a last was found behind the heads that were heard
pub decides_last : (cfg : Config) (old mid new : AnswerSide) (asking : Asking Variables) (server : Coming) (put more : List ℕ) (saying : Saying) (vars : Variables) → (seen mid).window ≡ (seen old).window ++ more → GoesOut mid new
    → Finds cfg new asking server (put ++ more) saying vars → Decides cfg old new asking server put saying vars
decides_last cfg old mid new asking server put more saying vars window g f =
    record {
      put = more;
      behind = f.behind;
      stands = f.stands;
      vars = vars_last (place_of new) (answering asking.vars) f.behind vars g.last f.vars;
      window = g.window ∙ window;
      waits = λ heads. absurd (never_both (place_of new) g.last heads);
    }

waits_told : (side : AnswerSide) → side.place ≡ place.Heads → WaitsForHead side → ((seen side).window ≢ []) ⊎ (((seen side).told ≡ told.Going) × ((seen side).is_open ≡ true) × (0 < (seen side).room))
waits_told side heads (inl some) = inl some
waits_told side heads (inr w) = inr (ap (λ (p : Place). told_at p (source_of side.lane)) heads, w.0, w.1)

-- a direction at rest among heads waits for one
rests_waiting : (side : AnswerSide) (head_asked : Bool) → 0 < (seen side).room → HeadRests head_asked side.lane → WaitsForHead side
rests_waiting side head_asked room (inl shows) = inl shows.1
rests_waiting side head_asked room (inr reads) = inr (ap is_none reads.1, room)

-- nothing, where nothing came since the last step
pub decides_rested : (cfg : Config) (side : AnswerSide) (asking : Asking Variables) (server : Coming) (put : List ℕ) (now : Variables) (saying : Saying) (vars : Variables) → AnswerStands cfg side asking server put now saying
    → VarsAt (place_of side) (answering asking.vars) now vars → side.place ≡ place.Heads → side.at_rest ≡ true → 0 < (seen side).room → Decides cfg side side asking server put saying vars
decides_rested cfg side asking server put now saying vars s at heads rest room =
    record {
      put = [];
      behind = now;
      stands = subst (λ (xs : List ℕ). AnswerStands cfg side asking server xs now saying) (sym (append-nil put)) s;
      vars = at;
      window = sym (append-nil (seen side).window);
      waits = λ _. (rest, λ off. waits_told side heads (rests_waiting side (asker_in asking).head_asked room (subst (λ (p : Place). RestsAt p (asker_in asking).head_asked side.lane) heads (s.rests rest))));
    }

-- more is waited for
pub decides_more : (cfg : Config) (old mid new : AnswerSide) (asking : Asking Variables) (server : Coming) (put : List ℕ) (now : Variables) (saying : Saying) (vars : Variables) → new ≡ record mid { at_rest = true } → mid.place ≡ place.Heads
    → vars ≡ answering asking.vars → Hears cfg old mid asking server put now saying heard.More → Decides cfg old new asking server put saying vars
decides_more cfg old mid new asking server put now saying vars is heads same h =
    subst (λ (s : AnswerSide). Decides cfg old s asking server put saying vars) (sym is) (record {
      put = h.put;
      behind = now;
      stands = record {
        asks = h.tells.0.asks;
        for_it = h.tells.0.for_it;
        at = h.tells.0.at;
        heard = h.tells.0.heard;
        rests = λ _. subst (λ (p : Place). RestsAt p (asker_in asking).head_asked mid.lane) (sym heads) h.tells.2;
      };
      vars = subst (λ (p : Place). VarsAt p (answering asking.vars) now vars) (sym heads) same;
      window = h.window;
      waits = λ at. (refl, λ off. waits_told mid heads h.tells.1);
    })

-- ---- a step

-- what is put out behind what was decided
pub steps_last : (cfg : Config) (old mid new : AnswerSide) (asking : Asking Variables) (server : Coming) (put : List ℕ) (saying : Saying) (vars : Variables) → (d : Decides cfg old mid asking server put saying vars) → place_of new ≡ place_of mid
    → PutsMore cfg mid new asking server (put ++ d.put) d.behind saying → StepsOn cfg old new asking server put saying vars
steps_last cfg old mid new asking server put saying vars d same p =
    record {
      put = d.put ++ p.put;
      behind = d.behind;
      stands = subst (λ (xs : List ℕ). AnswerStands cfg new asking server xs d.behind saying) (append_assoc put d.put p.put) p.stands;
      vars = subst (λ (at : Place). VarsAt at (answering asking.vars) d.behind vars) (sym same) d.vars;
      window = p.window ∙ ap (λ xs. xs ++ p.put) d.window ∙ append_assoc (seen old).window d.put p.put;
      waits = p.waits;
    }

steps_none : (cfg : Config) (old mid : AnswerSide) (asking : Asking Variables) (server : Coming) (put : List ℕ) (saying : Saying) (vars : Variables) → place_of mid ≡ place.Heads → Decides cfg old mid asking server put saying vars → StepsOn cfg old mid asking server put saying vars
steps_none cfg old mid asking server put saying vars heads d =
    record { put = d.put; behind = d.behind; stands = d.stands; vars = d.vars; window = d.window; waits = d.waits heads }

pub steps_on : (cfg : Config) (old mid new : AnswerSide) (asking : Asking Variables) (server : Coming) (put : List ℕ) (saying : Saying) (vars : Variables) → is_serving (place_of mid) ≡ true → (d : Decides cfg old mid asking server put saying vars)
    → place_of new ≡ place_of mid → (is_last (place_of mid) ≡ false → new ≡ mid) → (is_last (place_of mid) ≡ true → PutsMore cfg mid new asking server (put ++ d.put) d.behind saying) → StepsOn cfg old new asking server put saying vars
steps_on cfg old mid new asking server put saying vars serves d same rests puts = by (is_last (place_of mid)) refl
  where
    by : (last : Bool) → is_last (place_of mid) ≡ last → StepsOn cfg old new asking server put saying vars
    by true last = steps_last cfg old mid new asking server put saying vars d same (puts last)
    by false off =
        subst (λ (s : AnswerSide). StepsOn cfg old s asking server put saying vars) (sym (rests off))
        (steps_none cfg old mid asking server put saying vars (serves_heads (place_of mid) serves off) d)

-- ---- what is kept

pub vars_heads : (at : Place) (before now vars : Variables) → at ≡ place.Heads → VarsAt at before now vars → vars ≡ before
vars_heads at before now vars heads v = subst (λ (p : Place). VarsAt p before now vars) heads v

never_begun : (side : AnswerSide) → IsSoundSide side → side.place ≡ place.Heads → (seen side).begun ≡ true → ⊥
never_begun side s heads begun = let f = at_place place.Heads side heads s.at in let both : true ≡ false = sym begun ∙ f.0 in cc both

-- where the last goes out
pub keeps_out : (old mid new : AnswerSide) → IsSoundSide old → old.place ≡ place.Heads → ((seen old).heard ≡ true → (seen mid).heard ≡ true) → (seen mid).is_open ≡ (seen old).is_open → size_of mid ≡ size_of old
    → window_size_of mid ≡ window_size_of old → GoesOut mid new → KeepsOn old new
keeps_out old mid new sound heads heard_ open_ size window g =
    record {
      serving = last_serves (place_of new) g.last;
      sound = g.sound;
      begun = λ was. absurd (never_begun old sound heads was);
      heard = λ was. g.heard ∙ heard_ was;
      is_open = g.is_open ∙ open_;
      size = g.size ∙ size;
      window_size = g.window_size ∙ window;
    }

-- where more is waited for
pub keeps_more : (old mid : AnswerSide) → IsSoundSide old → old.place ≡ place.Heads → ((seen old).heard ≡ true → (seen mid).heard ≡ true) → (seen mid).is_open ≡ (seen old).is_open → size_of mid ≡ size_of old
    → window_size_of mid ≡ window_size_of old → IsBetween mid → FitsAt place.Heads mid
    → KeepsOn old (record mid { at_rest = true })
keeps_more old mid sound heads heard_ open_ size window b f =
    record {
      serving = ap is_serving b.place;
      sound = record { lane = b.lane; open_is = b.open_is; at = subst (λ (p : Place). FitsAt p (record mid { at_rest = true })) (sym b.place) (f.0, f.1, f.2, f.3) };
      begun = λ was. absurd (never_begun old sound heads was);
      heard = heard_;
      is_open = open_;
      size = size;
      window_size = window;
    }

-- two facts of a result
pub on_ok_both : {T E P Q R : Type 0} (r : Result T E) → (P → Q → R) → OnOk r P → OnOk r Q → OnOk r R
on_ok_both (Ok x) f p q = f p q
on_ok_both (Err e) f p q = p
