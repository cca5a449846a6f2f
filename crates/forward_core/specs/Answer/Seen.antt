-- What a session sees of its answer direction.
use Rattle.std.specs.Prelude.{ℕ, ◌-◌, Bool, true, false, length, is_none, Option, None}
use Rattle.lane.specs.declared.direction.stage.Stage.{Stage}
use Rattle.lane.specs.declared.direction.stage.Stage.TheVariants as stage
use Rattle.http_model.specs.declared.Source.{Source}
use Rattle.http_model.specs.declared.Source.TheVariants as source
use Rattle.lane.specs.Answering.{stage_of, source_of, input_of, most_of, ended_of, output_of, window_of, limits_of, has_begun}
use Rattle.session_core.specs.Sided.{AnswerSeen}
use Rattle.session_core.specs.declared.Told.{Told}
use Rattle.session_core.specs.declared.Told.TheVariants as told
use Rattle.forward_core.specs.declared.answer.asker.Asker.{Asker}
use Rattle.forward_core.specs.declared.answer.place.Place.{Place}
use Rattle.forward_core.specs.declared.answer.place.Place.TheVariants as place
use Rattle.forward_core.specs.declared.answer.side.AnswerSide.{AnswerSide}

-- a response is told by its body
abbrev pub told_by : Source → Told
told_by source.Going = told.Going
told_by source.Whole = told.Whole
told_by (source.Cut code) = told.Cut

-- how the last that answers stands
abbrev pub told_at : Place → Source → Told
told_at place.Idle body = told.Going
told_at place.Heads body = told.Going
told_at place.Response body = told_by body
told_at place.Closing body = told.Closes
told_at place.Keeping body = told.Whole
told_at place.Saying body = told.Closes

abbrev pub is_done : Stage → Bool
is_done stage.Reading = false
is_done stage.Head = false
is_done stage.Sending = false
is_done stage.Done = true

-- all of the text is put out
abbrev pub answered_at : Place → Stage → Bool
answered_at place.Idle at = false
answered_at place.Heads at = false
answered_at place.Response at = is_done at
answered_at place.Closing at = is_done at
answered_at place.Keeping at = is_done at
answered_at place.Saying at = is_done at

-- the status of what goes out; none in front of an answer
abbrev pub status_at : Place → (last : Option ℕ) → Option ℕ
status_at place.Idle last = None
status_at place.Heads last = None
status_at place.Response last = last
status_at place.Closing last = last
status_at place.Keeping last = last
status_at place.Saying last = last

-- the last that answers goes out
abbrev pub is_last : Place → Bool
is_last place.Idle = false
is_last place.Heads = false
is_last place.Response = true
is_last place.Closing = true
is_last place.Keeping = true
is_last place.Saying = false

abbrev pub place_of : AnswerSide → Place
place_of side = side.place

-- what it knows of the request that is answered
abbrev pub asker_of : AnswerSide → Asker
asker_of side = side.asker

-- what is known of no request
abbrev pub nobody : Asker
nobody = record { head_asked = false; is_http_11 = false; keep = false }

-- the most bytes of a list that it can put out, and of a head that rules leave
abbrev pub size_of : AnswerSide → ℕ
size_of side = (limits_of side.lane).bufsize

-- how many bytes its window to the client can hold
abbrev pub window_size_of : AnswerSide → ℕ
window_size_of side = (window_of side.lane).capacity

abbrev pub seen : AnswerSide → AnswerSeen
seen side =
    record {
      is_open = is_none (ended_of side.lane);
      room = most_of side.lane - length (input_of side.lane);
      window = output_of side.lane;
      told = told_at side.place (source_of side.lane);
      answered = answered_at side.place (stage_of side.lane);
      begun = has_begun side.lane;
      heard = side.heard;
      status = status_at side.place side.status;
      at_rest = side.at_rest;
    }
