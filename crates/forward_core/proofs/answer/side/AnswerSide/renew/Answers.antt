use Rattle.std.proofs.Common.{refl, sym, ap, ◌∙◌, true}
use Rattle.std.specs.Prelude.{is_none}
use Rattle.lane.specs.Answering.{fresh}
use Rattle.forward_core.proofs.answer.side.AnswerSide.renew.Goals as goal

pub returns-clause-stands : goal.returns-clause-stands
returns-clause-stands c = λ cfg asked came sent before said old asking server now saying is.
    let for = old.for_it in
    record {
      asks = is;
      for_it = record { limits = c.renew.ensures.limits ∙ for.limits; filters = c.renew.ensures.filters _ for.filters };
      at = (fresh true, c.renew.ensures.fresh true, record { put = refl; passed = refl }, refl);
      heard = tt;
      rests = λ _. tt;
    }

pub returns-clause-sound : goal.returns-clause-sound
returns-clause-sound c =
    record { lane = c.renew.ensures.sound; open_is = sym (ap is_none c.renew.ensures.open); at = (c.renew.ensures.reading, c.renew.ensures.begun, refl) }
