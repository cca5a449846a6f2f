-- What is told of the exchange in hand.
use Rattle.std.proofs.Common.{◌≡◌, ℕ, List, [], ◌∷◌, ◌++◌, Bool, true, false, ◌&&◌, if◌then◌else◌, Option, Some, None, map, refl, sym, ap, ◌∙◌, subst, arith, inr, is_some}
use Rattle.std.specs.List.{AllByRecursion}
use Rattle.http_model.specs.Head.{Head}
use Rattle.http_model.specs.Finish.{finish_interim}
use Rattle.http_model.specs.declared.Close.{Close}
use Rattle.session_model.specs.Meaning.{Meaning, is_interim}
use Rattle.session_model.specs.Asking.{Asker}
use Rattle.session_model.specs.Answering.{BeginsWithInterim, sent_interim}
use Rattle.session_core.specs.History.{Past, Coming, Connect, broken, close_by}
use Rattle.session_core.specs.Sided.{Sided, Saying, asker_in, RequestSeen, AnswerSeen, Turned}
use Rattle.session_core.specs.Stands.{Refusing, Replying, InPhase, Serves}
use Rattle.session_core.specs.InHand.{ExchangesAre}
use Rattle.session_core.specs.Lines.{IsLineOf, ShowsLine, LineAt, LineIn}
use Rattle.session_core.specs.Place as place
use Rattle.session_core.specs.Place.{Place, IsPlaced}
use Rattle.session_core.specs.Statuses.{TellsStatus, SaysStatus, StatusAt, status_in, whole_in, said_in, TellsExchange}
use Rattle.session_core.specs.Waits.{has_ended, is_empty, is_serving, wants_of}
use Rattle.session_core.specs.declared.machine.At.{At}
use Rattle.session_core.specs.declared.Phase.{Phase}
use Rattle.session_core.specs.declared.Phase.TheVariants as phase
use Rattle.session_core.proofs.Lines.{line_by}
use Rattle.session_core.proofs.Streams.{continues_broken}

-- ---- heads in front of a text

all_interim : (M : Meaning) (asker : Asker) (heads : List Head) (bytes : List ℕ) (P : List ℕ → Type 0) → BeginsWithInterim M asker heads bytes P → AllByRecursion (λ head. is_interim head ≡ true) (map finish_interim heads)
all_interim M asker [] bytes P b = tt
all_interim M asker (head ∷ heads) bytes P (received, rest, reads, interim, same, more) =
    (ap (λ (h : Head). is_interim h) same ∙ interim, all_interim M asker heads rest P more)

sent_by : (eleven : Bool) (heads : List Head) → AllByRecursion (λ head. is_interim head ≡ true) (map finish_interim heads)
    → AllByRecursion (λ head. is_interim head ≡ true) (if eleven then map finish_interim heads else [])
sent_by true heads h = h
sent_by false heads h = tt

sent_are_interim : (M : Meaning) (asker : Asker) (heads : List Head) (bytes : List ℕ) → BeginsWithInterim M asker heads bytes (λ rest. Unit {0}) → AllByRecursion (λ head. is_interim head ≡ true) (sent_interim asker heads)
sent_are_interim M asker heads bytes b = sent_by asker.is_http_11 heads (all_interim M asker heads bytes _ b)

-- all was put out where nothing is left
all_put : (put text rest : List ℕ) → put ++ rest ≡ text → rest ≡ [] → put ≡ text
all_put put text rest said none = sym (Rattle.std.proofs.lemmas.List.append-nil put) ∙ ap (λ xs. put ++ xs) (sym none) ∙ said

-- ---- a text that is made here

-- a refusal in place of a server's answer, behind interim heads
turned_tells : (M : Meaning) (all : Bool) (asker : Asker) (server : Coming) (put : List ℕ) (saying : Saying) (code : ℕ) (status : Option ℕ)
    → SaysStatus saying status → Turned M all asker server put saying code → TellsStatus all put status
turned_tells M all asker server put saying code None h t = absurd h
turned_tells M all asker server put saying code (Some number) h t =
    record {
      heads = sent_interim asker t.heads;
      interim = sent_are_interim M asker t.heads _ (t.begins (broken server) (continues_broken server));
      text = saying.text;
      begins = h;
      front = (saying.left, t.said);
      sent = λ whole. all_put put _ saying.left t.said (t.sent whole);
    }

-- a refusal or a reply with nothing in front of it
said_tells : (all : Bool) (put : List ℕ) (saying : Saying) (status : Option ℕ)
    → SaysStatus saying status → put ++ saying.left ≡ saying.text → (all ≡ true → saying.left ≡ []) → TellsStatus all put status
said_tells all put saying None h said sent = absurd h
said_tells all put saying (Some number) h said sent =
    record {
      heads = [];
      interim = tt;
      text = saying.text;
      begins = h;
      front = (saying.left, said);
      sent = λ whole. all_put put _ saying.left said (sent whole);
    }

-- ---- the core

serving_tells : (M : Meaning) (placed : Place → Type 0) (q : RequestSeen) (a : AnswerSeen) (p : Sided M) (cut : Option Bool)
    → placed (place.place_serving cut) → Serves M q a p cut → ((at : Place) → placed at → StatusAt at a p) → TellsStatus a.answered p.to_client a.status
serving_tells M placed q a p None h made each = each place.Serves h
serving_tells M placed q a p (Some true) h made each = each place.Serves h
serving_tells M placed q a p (Some false) h made each = turned_tells M a.answered (asker_in p.asking) p.server p.to_client p.saying made.1 a.status (each place.Says h) made.3

tells_by : (M : Meaning) (placed : Place → Type 0) (q : RequestSeen) (a : AnswerSeen) (p : Sided M) (hand : ℕ) (cut : Option Bool) (now : List Connect) (ph : Phase)
    → IsPlaced placed a ph cut → InPhase M q a p hand cut now ph → ((at : Place) → placed at → StatusAt at a p) → TellsStatus (whole_in ph a.answered) p.to_client (status_in ph a.status)
tells_by M placed q a p hand cut now phase.Reading h made each = refl
tells_by M placed q a p hand cut now phase.Opening h made each = refl
tells_by M placed q a p hand cut now phase.Unserved h made each = refl
tells_by M placed q a p hand cut now phase.Serving h made each = serving_tells M placed q a p cut h made.2.2 each
tells_by M placed q a p hand cut now phase.Served h made each = serving_tells M placed q a p cut h.0 made.4.2 each
tells_by M placed q a p hand cut now phase.Refusing h made each =
    let r : Refusing M a.answered p.vars p.came p.to_client p.saying now = made.3 in
    said_tells a.answered p.to_client p.saying a.status (each place.Says h) r.said r.sent
tells_by M placed q a p hand cut now (phase.Replying kept) h made each =
    let r : Replying M a.answered p.vars p.came p.to_client p.saying p.reply kept p.now = made.3 in
    said_tells a.answered p.to_client p.saying a.status (each place.Replies h.0) r.said r.sent
tells_by M placed q a p hand cut now (phase.Over how) h made each = refl

-- ---- which exchange it is, where a status is told

abbrev none_told : Option ℕ
none_told = None

no_status : (A : Type 0) → is_some none_told ≡ true → A
no_status A e = absurd (let f : false ≡ true = e in cc f)

one_by : (M : Meaning) (q : RequestSeen) (a : AnswerSeen) (p : Sided M) (hand : ℕ) (cut : Option Bool) (now : List Connect) (ph : Phase)
    → InPhase M q a p hand cut now ph → is_some (status_in ph a.status) ≡ true → hand ≡ 1
one_by M q a p hand cut now phase.Reading made e = no_status _ e
one_by M q a p hand cut now phase.Opening made e = made.0
one_by M q a p hand cut now phase.Unserved made e = made.0
one_by M q a p hand cut now phase.Serving made e = made.0
one_by M q a p hand cut now phase.Served made e = made.0
one_by M q a p hand cut now phase.Refusing made e = made.0
one_by M q a p hand cut now (phase.Replying kept) made e = made.0
one_by M q a p hand cut now (phase.Over how) made e = no_status _ e

shown_serving : (cut : Option Bool) (M : Meaning) (came : Coming) (line : List ℕ) → LineAt (place.place_serving cut) M came line → ShowsLine M came line
shown_serving None M came line h = inr h
shown_serving (Some true) M came line h = inr h
shown_serving (Some false) M came line h = h

shown_by : (ph : Phase) (cut : Option Bool) (M : Meaning) (came : Coming) (line : List ℕ) (status : Option ℕ) → LineIn ph cut M came line → is_some (status_in ph status) ≡ true → ShowsLine M came line
shown_by phase.Reading cut M came line status h e = no_status _ e
shown_by phase.Opening cut M came line status h e = inr h
shown_by phase.Unserved cut M came line status h e = inr h
shown_by phase.Serving cut M came line status h e = shown_serving cut M came line h
shown_by phase.Served cut M came line status h e = shown_serving cut M came line h
shown_by phase.Refusing cut M came line status h e = h
shown_by (phase.Replying kept) cut M came line status h e = inr h
shown_by (phase.Over how) cut M came line status h e = h

pub tells_exchange : (M : Meaning) (S : Sided M → Type 0) (placed : Place → Type 0) (at : At) (q : RequestSeen) (a : AnswerSeen) (past : Past) → (e : ExchangesAre M S q a at past) → IsPlaced placed a at.phase at.cut
    → ((p : Sided M) → S p → IsLineOf M p.came q.line) → ((p : Sided M) (place : Place) → S p → placed place → LineAt place M p.came q.line)
    → ((p : Sided M) (place : Place) → S p → placed place → StatusAt place a p)
    → TellsExchange M past a.window (whole_in at.phase a.answered) at.exchanges q.line (status_in at.phase a.status)
tells_exchange M S placed at q a past e placed_is line line_at status = record {
  in_hand = e.in_hand;
  hand = e.hand;
  number_is = e.count;
  line_is = subst (λ (c : Coming). IsLineOf M c q.line) (sym e.came) (line e.sided e.stand);
  one = one_by M q a e.sided e.hand at.cut e.in_hand.now at.phase e.made;
  shown = λ some. subst (λ (c : Coming). ShowsLine M c q.line) (sym e.came)
      (shown_by at.phase at.cut M e.sided.came q.line a.status (line_by placed a at.phase at.cut M e.sided.came q.line placed_is (λ place here. line_at e.sided place e.stand here)) some);
  put = e.sided.to_client;
  text = e.to_client;
  status_is = tells_by M placed q a e.sided e.hand at.cut e.in_hand.now at.phase placed_is e.made (λ place here. status e.sided place e.stand here);
}

-- ---- where all text was put out

pub said_whole : (ph : Phase) (answered : Bool) → said_in ph answered ≡ true → whole_in ph answered ≡ true
said_whole phase.Refusing answered e = e
said_whole (phase.Replying kept) answered e = e
said_whole _ answered e = absurd (grind (arith, e))

all_answered : (sent empty answered : Bool) (close how : Close) → (if sent && empty && answered then Some close else None) ≡ Some how → answered ≡ true
all_answered sent empty true close how e = refl
all_answered true true false close how e = absurd (grind (arith, e))
all_answered true false false close how e = absurd (grind (arith, e))
all_answered false empty false close how e = absurd (grind (arith, e))

closes_by : (q : RequestSeen) (a : AnswerSeen) (ph : Phase) (close how : Close) → (if is_serving ph && has_ended q a then Some close else None) ≡ Some how → whole_in ph a.answered ≡ true
closes_by q a phase.Serving close how e = all_answered q.sent (is_empty q.window) a.answered close how e
closes_by q a _ close how e = absurd (grind (arith, e))

-- a server's link is to be closed once all text of the answer was put out
pub closes_whole : (q : RequestSeen) (a : AnswerSeen) (at : At) (how : Close) → (wants_of q a at).server_close ≡ Some how → whole_in at.phase a.answered ≡ true
closes_whole q a at how e = closes_by q a at.phase (close_by at.cut) how e
