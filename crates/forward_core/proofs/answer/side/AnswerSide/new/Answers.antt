use Rattle.std.proofs.Common.{refl, sym, ap, ◌∙◌, true, subst}
use Rattle.std.specs.Prelude.{is_none}
use Rattle.lane.specs.Answering.{fresh, HasFilters}
use Rattle.forward_core.proofs.answer.side.AnswerSide.new.Goals as goal

pub returns-clause-stands : goal.returns-clause-stands
returns-clause-stands c = λ cfg asking server now saying limits filters is.
    record {
      asks = is;
      for_it = record { limits = c.in_ok-lane.ensures.limits ∙ sym limits; filters = subst (HasFilters c.in_ok-lane.lane) (sym filters) c.in_ok-lane.ensures.filters };
      at = (fresh true, c.in_ok-lane.ensures.fresh true, record { put = refl; passed = refl }, refl);
      heard = tt;
      rests = λ _. tt;
    }

pub returns-clause-sound : goal.returns-clause-sound
returns-clause-sound c =
    record { lane = c.in_ok-lane.ensures.sound; open_is = sym (ap is_none c.in_ok-lane.ensures.open); at = (c.in_ok-lane.ensures.reading, c.in_ok-lane.ensures.begun, refl) }
