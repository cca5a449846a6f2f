-- What a lane of answers that waits says of the exchange in hand.
use Rattle.std.proofs.Common.{◌≡◌, ◌≢◌, ◌⊎◌, ℕ, List, [], ◌∷◌, ◌++◌, Bool, true, false, refl, sym, ap, ◌∙◌, subst}
use Rattle.std.specs.Prelude.{codes}
use Rattle.std.proofs.lemmas.List.{append-nil, append_cancel_left}
use Rattle.htx_model.specs.Blocks.{flow}
use Rattle.http_model.specs.declared.Framing.{Framing}
use Rattle.http_model.specs.Head.{Head, Message, StartLine, RequestLine, StatusLine}
use Rattle.http_model.specs.Spelling.{Spells, line_text, fields_text}
use Rattle.h1_body.specs.BodyOf.{BodyRead, More, IsBodyOf}
use Rattle.h1_write.specs.Spelled.{IsEven}
use Rattle.h1_write.proofs.PublicLaws.{whole_told}
use Rattle.body_filter.specs.declared.filter_spec.FilterSpec.{FilterSpec}
use Rattle.body_filter.specs.declared.filter_spec.FedState.TheVariants.{Going}
use Rattle.body_filter.specs.Filter.{filtered}
use Rattle.lane.specs.Direction.Carried.{EndIsOut}
use Rattle.lane.specs.Direction.Promise.{BodyTaken, EndsInSection, body_in}
use Rattle.lane.specs.Direction.Sends.{Past, Stands, put_out}
use Rattle.lane.specs.Direction.Sent.{Sent, Cut, SpellsAs, message_of}
use Rattle.lane.specs.declared.direction.stage.Stage.TheVariants as stage
use Rattle.http_model.specs.declared.Source.{Source}
use Rattle.http_model.specs.declared.Source.TheVariants as source
use Rattle.lane.specs.declared.direction.lane.Lane.{Lane}
use Rattle.lane.proofs.DirectionLemmas.PromiseLemmas.{spelled_cut, text_is}
use Rattle.lane.proofs.DirectionLemmas.RestLemmas as shared
use Rattle.lane.specs.Answering.{Exchange, Last, Serves, Answers, AnswersLast, IsLast, HasBegun, HoldsNothingBack, Rests, phase_of, source_of, stage_of, has_begun, limits_of, ended_of}
use Rattle.lane.specs.Resting.{FollowsHead, IsAllServed, ServesUncut, served}
use Rattle.lane.specs.declared.phase.Phase.TheVariants as phase
use Rattle.lane.specs.declared.response_lane.ResponseLane.{ResponseLane}
use Rattle.lane.proofs.AnswerLemmas.{at_last}

-- ---- the server's response

follows : (lane : ResponseLane) (p : Exchange) (filters : List FilterSpec) (head : Head) (framed : Framing) (no_body : Bool) (q : Past) (is : IsLast (Serves filters head framed no_body) lane.lane p q) → FollowsHead lane p is.0 q.bytes
follows lane p filters head framed no_body q is = record { pending = is.2; left = is.1; came = is.3; reads = is.4 }

-- the message is this one, behind what stood before it
served_spells : (s : Sent) (before text put body : List ℕ) (head : Head) (framed : Framing) (no_body : Bool) → s ≡ record { head = head; given = []; framing = framed; no_body = no_body; before = before }
    → SpellsAs s body Cut put → put ≡ before ++ text → SpellsAs (served head framed no_body) body Cut text
served_spells s before text put body head framed no_body e spells out =
    let is : SpellsAs (record { head = head; given = []; framing = framed; no_body = no_body; before = before }) body Cut put = subst (λ (x : Sent). SpellsAs x body Cut put) e spells in
    (is.0, append_cancel_left before text is.0 (sym out ∙ is.1), is.2)

taken : (lane : ResponseLane) (q : Past) (framing : Framing) (read : BodyRead) → q.reads ≡ framing → IsBodyOf (limits_of lane) framing q.bytes (ended_of lane) read → BodyTaken lane.lane q [] lane.lane.ended read
taken lane q framing read e x =
    subst (λ (b : List ℕ). IsBodyOf lane.lane.limits q.reads b lane.lane.ended read) (sym (append-nil q.bytes))
    (subst (λ (f : Framing). IsBodyOf lane.lane.limits f q.bytes lane.lane.ended read) (sym e) x)

sent_is : (s : Sent) (fs filters : List FilterSpec) (body : List ℕ) → s.given ≡ [] → fs ≡ filters → s.given ++ (filtered fs false body).output ≡ (filtered filters false body).output
sent_is s fs filters body none same = ap (λ (g : List ℕ). g ++ (filtered fs false body).output) none ∙ ap (λ (f : List FilterSpec). (filtered f false body).output) same

pub not_held_back : (lane : ResponseLane) (p : Exchange) (filters : List FilterSpec) (head : Head) (framed : Framing) (no_body : Bool) → Answers lane p → phase_of lane ≡ phase.Answering → p.last ≡ Serves filters head framed no_body
    → source_of lane ≡ source.Going → HoldsNothingBack lane → IsAllServed lane p filters head framed no_body
not_held_back lane p filters head framed no_body a at last going rest =
    let l = at_last lane p at a in
    let q : Past = l.past in
    let is : IsLast (Serves filters head framed no_body) lane.lane p q = subst (λ (x : Last). IsLast x lane.lane p q) last l.last in
    record {
      got = is.0;
      bytes = q.bytes;
      follows = follows lane p filters head framed no_body q is;
      text = l.text;
      put = l.put;
      spells = λ read x.
          served_spells q.sent q.sent.before l.text (put_out lane.lane q) (filtered filters false (body_in read)).output head framed no_body is.6
          (subst (λ (b : List ℕ). SpellsAs q.sent b Cut (put_out lane.lane q)) (sent_is q.sent q.filters filters (body_in read) (ap (λ (s : Sent). s.given) is.6) is.7)
          (shared.nothing_held_back lane.lane q l.stands l.kept going rest read (taken lane q is.0.framing read is.5 x))) l.out;
    }

pub uncut : (lane : ResponseLane) (p : Exchange) (filters : List FilterSpec) (head : Head) (framed : Framing) (no_body : Bool) → Answers lane p → phase_of lane ≡ phase.Answering → p.last ≡ Serves filters head framed no_body
    → source_of lane ≡ source.Going → Rests lane → ServesUncut lane p filters
uncut lane p filters head framed no_body a at last going rest =
    let l = at_last lane p at a in
    let q : Past = l.past in
    let is : IsLast (Serves filters head framed no_body) lane.lane p q = subst (λ (x : Last). IsLast x lane.lane p q) last l.last in
    let shows = shared.no_cut_shown lane.lane q l.stands going rest in
    record {
      got = is.0;
      bytes = q.bytes;
      follows = follows lane p filters head framed no_body q is;
      ended = shows.ended;
      still = λ read x. subst (λ (framing : Framing). (read ≡ More (body_in read)) ⊎ EndsInSection (limits_of lane) framing q.bytes) is.5 (shows.still read (taken lane q is.0.framing read is.5 x));
      accepted = λ read x. subst (λ (f : List FilterSpec). (filtered f false (body_in read)).state ≡ Going) is.7 (shows.accepted read (taken lane q is.0.framing read is.5 x));
    }

-- ---- it has begun

starts : List ℕ → Bool
starts [] = false
starts (x ∷ xs) = true

-- the text of a start line is not empty
line_some : (line : StartLine) (a b c : List ℕ) → starts (((line_text line ++ a) ++ b) ++ c) ≡ true
unfolding starts
line_some (RequestLine [] target version) a b c = refl
line_some (RequestLine (m ∷ method) target version) a b c = refl
line_some (StatusLine version status reason) a b c = refl

starts_not : (text : List ℕ) → starts text ≡ true → text ≢ []
unfolding starts
starts_not [] e = λ _. (let both : false ≡ true = e in cc both)
starts_not (x ∷ xs) e = λ none. (let both : true ≡ false = ap starts none in cc both)

spells_some : (whole no_body : Bool) (m : Message) (text : List ℕ) → Spells whole no_body m text → text ≢ []
spells_some whole no_body m text s = starts_not text (ap starts s.spelled ∙ line_some m.head.line (fields_text m.head.fields) (codes "\r\n") s.body)

record PutsSome (before put : List ℕ) : Type 0 where
  pub text : List ℕ
  pub is : put ≡ before ++ text
  pub some : text ≢ []

some_cut : (s : Sent) (found put : List ℕ) → SpellsAs s found Cut put → PutsSome s.before put
some_cut s found put h = record { text = h.0; is = h.1; some = spells_some false s.no_body (message_of s found []) h.0 h.2 }

-- all that was read was put out, and a head is at least a byte
puts_some : (l : Lane) (q : Past) → Stands l q → l.dropped ≡ false → (src : Source) → l.source ≡ src → l.msg.blocks ≡ [] → l.out.blocks ≡ [] → EndIsOut src l.writer → (src ≡ source.Going → IsEven l.writer) → PutsSome q.sent.before (put_out l q)
puts_some l q st d source.Going e msg out end even =
    some_cut q.sent (q.sent.given ++ st.sends.passed) (put_out l q) (spelled_cut l.writer q.sent (q.sent.given ++ st.sends.passed) (put_out l q) l.out.blocks l.msg.blocks (text_is l q st.sends source.Going e d) out msg (even refl))
puts_some l q st d source.Whole e msg out end even =
    let c = text_is l q st.sends source.Whole e d in
    let all = ap flow (sym (append-nil c.2.taken)) ∙ ap flow ((λ i. c.2.taken ++ (sym out i ++ sym msg i))) ∙ c.2.flows in
    record {
      text = c.2.text;
      is = c.2.put_is;
      some = spells_some true q.sent.no_body (message_of q.sent (q.sent.given ++ st.sends.passed) c.0) c.2.text
          (whole_told q.sent.framing q.sent.no_body c.2.taken l.out.blocks c.2.text l.writer (message_of q.sent (q.sent.given ++ st.sends.passed) c.0) c.2.has end refl all);
    }
puts_some l q st d (source.Cut code) e msg out end even =
    some_cut q.sent (q.sent.given ++ st.sends.passed) (put_out l q) (spelled_cut l.writer q.sent (q.sent.given ++ st.sends.passed) (put_out l q) l.out.blocks l.msg.blocks (text_is l q st.sends (source.Cut code) e d) out msg end)

begun_is : (b : Bool) (text : List ℕ) → HasBegun b text → text ≢ [] → b ≡ true
begun_is true text h some = refl
begun_is false text h some = absurd (some h)

begun_by : (lane : ResponseLane) (p : Exchange) (l : AnswersLast lane p) → PutsSome l.past.sent.before (put_out lane.lane l.past) → has_begun lane ≡ true
begun_by lane p l s = begun_is lane.begun l.text l.begun (λ none. s.some (append_cancel_left l.past.sent.before s.text l.text (sym s.is ∙ l.out) ∙ none))

pub begun_at_rest : (lane : ResponseLane) (p : Exchange) → Answers lane p → phase_of lane ≡ phase.Answering → HoldsNothingBack lane → has_begun lane ≡ true
begun_at_rest lane p a at rest =
    let l = at_last lane p at a in
    begun_by lane p l (puts_some lane.lane l.past l.stands l.kept lane.lane.source refl rest.msg rest.out rest.end (λ _. rest.rests))

pub begun_done : (lane : ResponseLane) (p : Exchange) → Answers lane p → phase_of lane ≡ phase.Answering → stage_of lane ≡ stage.Done → has_begun lane ≡ true
begun_done lane p a at done =
    let l = at_last lane p at a in
    let all = l.stands.over done l.kept in
    begun_by lane p l (puts_some lane.lane l.past l.stands l.kept lane.lane.source refl all.msg all.out all.end (λ going. absurd (all.source going)))
