-- A server's final head, and the last that answers.
use Rattle.std.proofs.Common.{◌≡◌, ℕ, List, [], Bool, true, false, refl, sym, ap, ◌∙◌}
use Rattle.std.specs.Prelude.{nat_le, Option, None, not, ◌&&◌, ◌||◌, if◌then◌else◌}
use Rattle.htx_model.specs.Blocks.{load}
use Rattle.body_filter.specs.declared.filter_spec.FilterSpec.{FilterSpec}
use Rattle.htx_arena.specs.Layout.Contents.{Contents}
use Rattle.http_model.specs.declared.Framing.{Framing}
use Rattle.http_model.specs.Finish.{finish_response, response_framing}
use Rattle.http_model.specs.Head.{Head, head_blocks}
use Rattle.http_model.specs.Reading.{Received}
use Rattle.px_sample.specs.Variables.{Variables}
use Rattle.http_rules.specs.declared.config.Config.{Config}
use Rattle.http_rules.specs.Lives.{answering}
use Rattle.forward_core.specs.Meaning.Product.{meaning_of, filters_of, replaces}
use Rattle.forward_core.specs.Rules.Ruling.{config_of, size_of as array_size}
use Rattle.forward_core.specs.declared.rules.rules.SessionRules.{SessionRules}
use Rattle.session_model.specs.Meaning.{declares_too_much, is_bodiless}
use Rattle.session_model.specs.Asking.{Asker}
use Rattle.session_model.specs.Answering.{Final, response_declares_too_much, response_fits, finished_response}
use Rattle.session_model.specs.Session.{SpellsFinal}
use Rattle.session_core.specs.History.{Coming}
use Rattle.session_core.specs.Sided.{Asking, asker_in, ToldIs, Saying, unsaid}
use Rattle.lane.specs.declared.direction.stage.Stage.TheVariants as stage
use Rattle.lane.specs.Answering.{Exchange, Answers, Replies as ListReplies, Serves, IsSoundAnswer, ended_of, phase_of, stage_of, array_of, framing_of, declared_of, shows_last, replies, serves}
use Rattle.lane.specs.Lending.{with_answer_head}
use Rattle.lane.specs.declared.response_lane.ResponseLane.{ResponseLane}
use Rattle.forward_core.specs.Answer.Seen.{size_of}
use Rattle.session_core.specs.declared.Told.{Told}
use Rattle.session_core.specs.declared.Told.TheVariants as told
use Rattle.forward_core.specs.Answer.Status.{is_status_line, line_status}
use Rattle.forward_core.specs.Answer.Stands.{IsAsker, IsInHand, IsInstead, StandsAt, list_text}
use Rattle.forward_core.specs.Answer.Hearing.{IsBetween, FinalHead}
use Rattle.forward_core.specs.Answer.Judging.{Edits, Settles, GoesOut, IsEdited, told_when, place_when, is_not_modified, finished_by}
use Rattle.forward_core.specs.declared.answer.place.Place.TheVariants as place
use Rattle.forward_core.specs.declared.answer.side.AnswerSide.{AnswerSide}

-- ---- edits of the array

-- what holds of each lane whose head was edited in its array
pub record EditLaws : Type 0 where
  pub answers : (lane : ResponseLane) (msg : Contents) (p : Exchange) → stage_of lane ≡ stage.Head → Answers lane p → Answers (with_answer_head lane msg) p
  pub sound : (lane : ResponseLane) (msg : Contents) → msg.size ≡ (array_of lane).size → stage_of lane ≡ stage.Head → IsSoundAnswer lane → IsSoundAnswer (with_answer_head lane msg)

final_edited : EditLaws → (cfg : Config) (old : AnswerSide) (msg : Contents) (asking : Asking Variables) (server : Coming) (put : List ℕ) (received : Received) → stage_of old.lane ≡ stage.Head
    → FinalHead cfg old asking server put received → FinalHead cfg (record old { lane = with_answer_head old.lane msg }) asking server put received
final_edited laws cfg old msg asking server put received head f =
    record {
      read = record {
        asks = f.read.asks;
        for_it = record { limits = f.read.for_it.limits; filters = f.read.for_it.filters };
        e = f.read.e;
        in_hand = record {
          answers = laws.answers old.lane msg f.read.e head f.read.in_hand.answers;
          asked = f.read.in_hand.asked;
          bytes = f.read.in_hand.bytes;
          ending = f.read.in_hand.ending;
          passed = f.read.in_hand.passed;
          put_is = f.read.in_hand.put_is;
        };
        last = f.read.last;
        pending = f.read.pending;
        framing = f.read.framing;
        declared = f.read.declared;
        is_heard = f.read.is_heard;
        has_read = record { ending = f.read.has_read.ending; begins = f.read.has_read.begins };
      };
      is_final = f.is_final;
    }

pub edits_by : EditLaws → (old : AnswerSide) (msg : Contents) → IsBetween old → stage_of old.lane ≡ stage.Head → msg.size ≡ (array_of old.lane).size → Edits old (record old { lane = with_answer_head old.lane msg })
edits_by laws old msg b head size =
    record {
      between = record { lane = laws.sound old.lane msg size head b.lane; open_is = b.open_is; place = b.place; begun = b.begun; first = b.first; stirs = b.stirs };
      stage = head;
      final = λ cfg asking server put received f. final_edited laws cfg old msg asking server put received head f;
      window = refl;
      is_open = refl;
      heard = refl;
      size = refl;
      window_size = refl;
    }

-- what goes out of a side that was edited
pub edits_goes : (old mid new : AnswerSide) → Edits old mid → GoesOut mid new → GoesOut old new
edits_goes old mid new e g =
    record {
      last = g.last;
      sound = g.sound;
      window = g.window ∙ e.window;
      is_open = g.is_open ∙ e.is_open;
      heard = g.heard ∙ e.heard;
      size = g.size ∙ e.size;
      window_size = g.window_size ∙ e.window_size;
    }

-- the sizes of rules and side still agree
pub sized_still : (old mid : AnswerSide) (rules ruled : SessionRules) → Edits old mid → config_of ruled ≡ config_of rules → array_size rules ≡ size_of old → array_size ruled ≡ size_of mid
sized_still old mid rules ruled e config size = ap (λ (k : Config). k.limits.bufsize) config ∙ size ∙ sym e.size

-- ---- the finished head

finish_with : (replaced head_asked eleven keep not_modified : Bool) → Framing → Option ℕ → Head → Head
finish_with replaced head_asked eleven keep not_modified framing declared head =
    finish_response head (response_framing replaced eleven framing) (if not replaced && (head_asked || not_modified) then declared else None) (not keep)

pub finished_is : (cfg : Config) (side : AnswerSide) (asker : Asker) (received : Received) (replaced not_modified : Bool) (head : Head) → IsAsker side.asker asker → replaced ≡ replaces cfg.res_filters → not_modified ≡ is_not_modified received.head
    → framing_of side.lane ≡ received.framing → declared_of side.lane ≡ received.declared → finished_by side replaced not_modified head ≡ finished_response (meaning_of cfg) asker received head
unfolding finish_with
finished_is cfg side asker received replaced not_modified head asks rep unchanged framing declared =
    ap (λ r. finish_with r side.asker.head_asked side.asker.is_http_11 side.asker.keep not_modified (framing_of side.lane) (declared_of side.lane) head) rep
    ∙ ap (λ x. finish_with (replaces cfg.res_filters) x side.asker.is_http_11 side.asker.keep not_modified (framing_of side.lane) (declared_of side.lane) head) asks.head_asked
    ∙ ap (λ x. finish_with (replaces cfg.res_filters) asker.head_asked x side.asker.keep not_modified (framing_of side.lane) (declared_of side.lane) head) asks.is_http_11
    ∙ ap (λ x. finish_with (replaces cfg.res_filters) asker.head_asked asker.is_http_11 x not_modified (framing_of side.lane) (declared_of side.lane) head) asks.keep
    ∙ ap (λ x. finish_with (replaces cfg.res_filters) asker.head_asked asker.is_http_11 asker.keep x (framing_of side.lane) (declared_of side.lane) head) unchanged
    ∙ ap (λ x. finish_with (replaces cfg.res_filters) asker.head_asked asker.is_http_11 asker.keep (is_not_modified received.head) x (declared_of side.lane) head) framing
    ∙ ap (λ x. finish_with (replaces cfg.res_filters) asker.head_asked asker.is_http_11 asker.keep (is_not_modified received.head) received.framing x head) declared

-- ---- it goes out

pub sends_response : (cfg : Config) (old : AnswerSide) (new : ResponseLane) (asking : Asking Variables) (server : Coming) (put : List ℕ) (now : Variables) (received : Received) (head : Head) (framing : Framing) (status : Option ℕ)
    → status ≡ line_status (finished_response (meaning_of cfg) (asker_in asking) received head).line → (f : FinalHead cfg old asking server put received) → IsEdited cfg asking received head now → response_fits (meaning_of cfg) (asker_in asking) received head ≡ true
    → framing ≡ response_framing (replaces cfg.res_filters) (asker_in asking).is_http_11 received.framing → ended_of new ≡ ended_of old.lane → shows_last (phase_of new) ≡ true
    → Answers new (serves f.read.e cfg.res_filters (finished_response (meaning_of cfg) (asker_in asking) received head) framing old.asker.head_asked)
    → StandsAt place.Response status cfg (asker_in asking) (answering asking.vars) new server put now (unsaid [])
sends_response cfg old new asking server put now received head framing status told f edits fits framed ended shows a =
    let done : Head = finished_response (meaning_of cfg) (asker_in asking) received head in (
      serves f.read.e cfg.res_filters done framing old.asker.head_asked,
      record {
        answers = a;
        asked = f.read.in_hand.asked;
        bytes = f.read.in_hand.bytes;
        ending = ended ∙ f.read.in_hand.ending;
        passed = f.read.in_hand.passed;
        put_is = f.read.in_hand.put_is;
      },
      record { shows = shows; told = told },
      record {
        received = received;
        at = edits.at;
        head = head;
        pending = f.read.pending;
        is_final = f.is_final;
        rules = edits.rules;
        short = edits.short;
        after = edits.after;
        fits = fits;
        last = ap (λ (x : Framing). Serves cfg.res_filters done x old.asker.head_asked) framed
            ∙ ap (λ (b : Bool). Serves cfg.res_filters done (response_framing (replaces cfg.res_filters) (asker_in asking).is_http_11 received.framing) b) f.read.asks.head_asked;
      },
    )

-- ---- a list in its place

pub instead_stands : (cfg : Config) (old : AnswerSide) (new : ResponseLane) (asking : Asking Variables) (server : Coming) (put : List ℕ) (now : Variables) (saying : Saying) (last : Final Variables) (head : Head) (body : List ℕ) (replied : Bool) (status : Option ℕ)
    → is_status_line head.line ≡ true → status ≡ line_status head.line → (s : Settles cfg old asking server put last) → SpellsFinal (meaning_of cfg) (asker_in asking) last (list_text (asker_in asking).head_asked head body) → ToldIs (meaning_of cfg) (told_when replied) now last
    → ended_of new ≡ ended_of old.lane → shows_last (phase_of new) ≡ true → Answers new (replies s.e head body old.asker.head_asked)
    → StandsAt (place_when replied) status cfg (asker_in asking) (answering asking.vars) new server put now saying
instead_stands cfg old new asking server put now saying last head body replied status line said_status s spelled is_told ended shows a = by replied is_told
  where
    in_hand : IsInHand (asker_in asking) new server put (replies s.e head body old.asker.head_asked)
    in_hand = record { answers = a; asked = s.in_hand.asked; bytes = s.in_hand.bytes; ending = ended ∙ s.in_hand.ending; passed = s.in_hand.passed; put_is = s.in_hand.put_is }

    instead : (so : Told) → ToldIs (meaning_of cfg) so now last → IsInstead cfg (asker_in asking) (answering asking.vars) server so now (replies s.e head body old.asker.head_asked)
    instead so told_ =
        record {
          head = head;
          body = body;
          line = line;
          last = ap (λ (b : Bool). ListReplies head body b) s.asks.head_asked;
          left = s.left;
          came = s.came;
          decides = λ rest goes. (let x = s.answers rest goes in record { last = last; head = x.head; reads = x.reads; answers = x.answers; spelled = spelled; told = told_ });
        }

    by : (r : Bool) → ToldIs (meaning_of cfg) (told_when r) now last → StandsAt (place_when r) status cfg (asker_in asking) (answering asking.vars) new server put now saying
    by true told_ = (replies s.e head body old.asker.head_asked, in_hand, record { shows = shows; told = said_status }, instead told.Whole told_)
    by false told_ = (replies s.e head body old.asker.head_asked, in_hand, record { shows = shows; told = said_status }, instead told.Closes told_)

-- ---- its length

-- whether the declared length passes a limit, as it is seen of the lane
pub too_much : (run cfg : Config) (filters : List FilterSpec) (declared : Option ℕ) (framing : Framing) (received : Received) → filters ≡ run.res_filters → run ≡ cfg → declared ≡ received.declared → framing ≡ received.framing
    → (declares_too_much (filters_of filters) declared && not (is_bodiless framing)) ≡ response_declares_too_much (meaning_of cfg) received
too_much run cfg filters declared framing received these same told framed =
    ap (λ (fs : List FilterSpec). declares_too_much (filters_of fs) declared && not (is_bodiless framing)) (these ∙ ap (λ (k : Config). k.res_filters) same)
    ∙ ap (λ (d : Option ℕ). declares_too_much (filters_of cfg.res_filters) d && not (is_bodiless framing)) told
    ∙ ap (λ (x : Framing). declares_too_much (filters_of cfg.res_filters) received.declared && not (is_bodiless x)) framed

-- whether the finished head fits
pub fits_as : (cfg : Config) (asker : Asker) (received : Received) (head done : Head) (size : ℕ) (fits : Bool) → done ≡ finished_response (meaning_of cfg) asker received head → size ≡ cfg.limits.bufsize → nat_le (load (head_blocks done)) size ≡ fits
    → response_fits (meaning_of cfg) asker received head ≡ fits
fits_as cfg asker received head done size fits is sized e =
    ap (λ (n : ℕ). nat_le (load (head_blocks (finished_response (meaning_of cfg) asker received head))) n) (sym sized) ∙ ap (λ (h : Head). nat_le (load (head_blocks h)) size) (sym is) ∙ e
