-- What goes out in place of a server's response.
use Rattle.std.proofs.Common.{◌≡◌, ℕ, List, Bool, true, false, refl, sym, ap, ◌∙◌, subst}
use Rattle.std.specs.Prelude.{is_none}
use Rattle.http_model.specs.declared.Limits.{Limits}
use Rattle.http_model.specs.Head.{Message}
use Rattle.http_model.specs.Spelling.{Spells}
use Rattle.px_sample.specs.Variables.{Variables}
use Rattle.http_rules.specs.declared.config.Config.{Config}
use Rattle.forward_core.specs.Meaning.Product.{meaning_of}
use Rattle.forward_core.specs.Rules.Ruling.{kept_with}
use Rattle.session_model.specs.Asking.{Asker}
use Rattle.session_model.specs.Amending.{reply_sent, behind_reply}
use Rattle.session_model.specs.Answering.{Replies}
use Rattle.session_model.specs.Session.{SpellsFinal}
use Rattle.session_core.specs.Sided.{ToldIs}
use Rattle.http_model.specs.declared.Source.TheVariants as source
use Rattle.lane.specs.Answering.{IsSoundAnswer, ended_of, limits_of, phase_of, source_of, output_of, shows_last}
use Rattle.forward_core.specs.Answer.Seen.{window_size_of, is_last}
use Rattle.forward_core.specs.Answer.Stands.{FitsAt}
use Rattle.forward_core.specs.Answer.Hearing.{IsBetween}
use Rattle.forward_core.specs.Answer.Judging.{GoesOut, place_when, told_when}
use Rattle.forward_core.specs.declared.answer.place.Place.{Place}
use Rattle.forward_core.specs.declared.answer.side.AnswerSide.{AnswerSide}

pub when_last : (replied : Bool) → is_last (place_when replied) ≡ true
when_last true = refl
when_last false = refl

pub when_fits : (replied : Bool) (side : AnswerSide) → shows_last (phase_of side.lane) ≡ true → source_of side.lane ≡ source.Whole → FitsAt (place_when replied) side
when_fits true side shows whole = (shows, whole)
when_fits false side shows whole = (shows, whole)

-- the last goes out of a side whose place is this now
pub goes_out : (old new : AnswerSide) (at : Place) → IsBetween old → new.place ≡ at → is_last at ≡ true → FitsAt at new → new.open ≡ old.open → new.heard ≡ old.heard → IsSoundAnswer new.lane → ended_of new.lane ≡ ended_of old.lane → output_of new.lane ≡ output_of old.lane
    → limits_of new.lane ≡ limits_of old.lane → window_size_of new ≡ window_size_of old → GoesOut old new
goes_out old new at b is last fits opens heard sound ended window limits window_size =
    record {
      last = ap is_last is ∙ last;
      sound = record {
        lane = sound;
        open_is = opens ∙ b.open_is ∙ ap is_none (sym ended);
        at = subst (λ (p : Place). FitsAt p new) (sym is) fits;
      };
      window = window;
      is_open = ap is_none ended;
      heard = heard;
      size = ap (λ (l : Limits). l.bufsize) limits;
      window_size = window_size;
    }

-- ---- a reply

pub reply_spells : (cfg : Config) (m : Message) (method : List ℕ) (vars : Variables) (asker : Asker) (keep : Bool) {text : List ℕ} → keep ≡ asker.keep
    → Spells true asker.head_asked (reply_sent (meaning_of cfg) m method vars keep) text → SpellsFinal (meaning_of cfg) asker (Replies m method vars) text
reply_spells cfg m method vars asker keep {text} e s = subst (λ (k : Bool). Spells true asker.head_asked (reply_sent (meaning_of cfg) m method vars k) text) e s

pub reply_told : (cfg : Config) (m : Message) (method : List ℕ) (vars now : Variables) (edited : Bool) → behind_reply (meaning_of cfg) m method vars true ≡ kept_with edited now → ToldIs (meaning_of cfg) (told_when edited) now (Replies m method vars)
reply_told cfg m method vars now true e = e
reply_told cfg m method vars now false e = (refl, e)
