-- The head in the array is finished for its server, and goes out.
use Rattle.std.proofs.Common.{◌≡◌, ℕ, ◌≤◌, ◌↔◌, List, [], Bool, true, false, nat_le, refl, sym, ap, ◌∙◌, subst, arith}
use Rattle.std.proofs.lemmas.Bool.Decides.{nat_tests}
use Rattle.htx_model.specs.Block.{Block}
use Rattle.htx_model.specs.Blocks.{load}
use Rattle.htx_arena.specs.Layout.Contents.{Contents}
use Rattle.http_model.specs.declared.Framing.{Framing}
use Rattle.http_model.specs.declared.Limits.{Limits}
use Rattle.http_model.specs.Finish.{finish_request}
use Rattle.http_model.specs.Head.{Head, head_blocks}
use Rattle.px_sample.specs.Variables.{Variables}
use Rattle.http_rules.specs.declared.config.Config.{Config}
use Rattle.header_ops.specs.Headers.{HasEnd}
use Rattle.http_rules.specs.Run.{IsHead}
use Rattle.session_core.specs.History.{Coming}
use Rattle.session_core.specs.Place as at
use Rattle.session_core.specs.Sided.{Asking, Reply, RequestSeen, asker_in, Saying}
use Rattle.http_model.specs.declared.Source.TheVariants as source
use Rattle.forward_core.specs.declared.request.kept.Kept.{Kept}
use Rattle.forward_core.specs.Request.Reads.{HasHead, SendsOn}
use Rattle.forward_core.specs.Request.Stands.{IsSound, RequestStands}
use Rattle.forward_core.specs.Request.Steps.{RequestsSo}
use Rattle.forward_core.specs.Request.Seen as requests
use Rattle.forward_core.specs.Request.Seen.{list_of}
use Rattle.forward_core.specs.Request.Edits.{Edits, array_size_of, with_head}
use Rattle.forward_core.specs.declared.request.place.Place.TheVariants as asked
use Rattle.forward_core.specs.declared.request.side.RequestSide.{RequestSide}
use Rattle.forward_core.specs.Answer.Seen as answers
use Rattle.forward_core.specs.Answer.Stands.{AnswerStands, IsAsker, IsSoundSide}
use Rattle.forward_core.specs.declared.answer.asker.Asker.{Asker}
use Rattle.forward_core.specs.declared.answer.side.AnswerSide.{AnswerSide}
use Rattle.forward_core.specs.Joined.Joined.{IsAt, KeepsWindows, settings_of, request_of, answer_of}
use Rattle.forward_core.specs.Joined.Asks.{HasRead, FinishesHead, asker_for, fits_in}
use Rattle.forward_core.specs.declared.joined.directions.Directions.{Directions}
use Rattle.forward_core.proofs.JoinedLemmas.Joining.{sound_request, sound_answer}

-- what the request direction says of edits
pub record AreEdits : Type 0 where
  pub size : (side : RequestSide) → HasHead side → array_size_of side ≡ (requests.limits_of side).bufsize
  pub edits : (side : RequestSide) (msg : Contents) → msg.size ≡ array_size_of side → requests.place_of side ≡ asked.Idle → HasHead side → Edits side (with_head side msg)

pub edits_head : (laws : AreEdits) (d : Directions) (msg : Contents) → HasRead d → msg.size ≡ array_size_of d.request → Edits d.request (with_head d.request msg)
edits_head laws d msg read size = laws.edits d.request msg size read.still.idle read.has

-- the array has the size of the configuration
pub array_sized : (laws : AreEdits) (d : Directions) → HasRead d → array_size_of d.request ≡ (settings_of d).limits.bufsize
array_sized laws d read = laws.size d.request read.has ∙ ap (λ (l : Limits). l.bufsize) read.still.sound.request_limits

read_edited : (d : Directions) (r : RequestSide) → HasRead d → Edits d.request r → HasRead (record d { request = r })
read_edited d r read e =
    record {
      still = record { sound = sound_request d r (e.sound read.still.sound.request) e.limits read.still.sound; idle = e.place ∙ read.still.idle; silent = read.still.silent };
      has = e.has;
    }

fits_true : (weighs size : ℕ) → weighs ≤ size → nat_le weighs size ≡ true
fits_true weighs size h = grind (arith, nat_tests)

fits_false : (weighs size : ℕ) → (weighs ≤ size → false ≡ true) → nat_le weighs size ≡ false
fits_false weighs size never = grind (arith, nat_tests)

-- it fits
pub finishes : (laws : AreEdits) (r : RequestSide) (was msg : Contents) (framing : Framing) → requests.place_of r ≡ asked.Idle → HasHead r → was.blocks ≡ list_of r → was.size ≡ array_size_of r
    → msg.size ≡ was.size
    → ((head : Head) → was.blocks ≡ head_blocks head → msg.blocks ≡ head_blocks (finish_request head framing))
    → ((head : Head) → was.blocks ≡ head_blocks head → (true ≡ true) ↔ (load (head_blocks (finish_request head framing)) ≤ was.size))
    → FinishesHead r (with_head r msg) framing true
finishes laws r was msg framing idle has blocks size same finished fits =
    record {
      edits = laws.edits r msg (same ∙ size) idle has;
      fits_is = λ head is. subst (λ (n : ℕ). fits_in n head framing ≡ true) (size ∙ laws.size r has) (fits_true (load (head_blocks (finish_request head framing))) was.size ((fits head (blocks ∙ is)).0 refl));
      finished = λ on head is. finished head (blocks ∙ is);
      same = λ (off : true ≡ false). absurd (cc off);
    }

-- it doesn't
pub finishes_not : (laws : AreEdits) (r : RequestSide) (was msg : Contents) (framing : Framing) → requests.place_of r ≡ asked.Idle → HasHead r → was ≡ r.lane.msg → msg ≡ was
    → ((head : Head) → was.blocks ≡ head_blocks head → (false ≡ true) ↔ (load (head_blocks (finish_request head framing)) ≤ was.size))
    → FinishesHead r (with_head r msg) framing false
finishes_not laws r was msg framing idle has is same fits =
    let blocks : was.blocks ≡ list_of r = ap (λ (x : Contents). x.blocks) is in
    let size : was.size ≡ array_size_of r = ap (λ (x : Contents). x.size) is in
    record {
      edits = laws.edits r msg (ap (λ (x : Contents). x.size) same ∙ size) idle has;
      fits_is = λ head at. subst (λ (n : ℕ). fits_in n head framing ≡ false) (size ∙ laws.size r has)
          (fits_false (load (head_blocks (finish_request head framing))) was.size (λ h. (fits head (blocks ∙ at)).1 h));
      finished = λ (on : false ≡ true). absurd (cc on);
      same = λ off. ap (λ (x : Contents). with_head r x) (same ∙ is);
    }

-- The same of the directions: what else they hold stays.
pub record Finishes (old new : Directions) (framing : Framing) (fits : Bool) : Type 0 where
  pub read : HasRead new
  pub answer : new.answer ≡ old.answer
  pub rules : new.rules ≡ old.rules
  pub method : new.method ≡ old.method
  pub edits : Edits old.request new.request
  pub fits_is : (head : Head) → list_of old.request ≡ head_blocks head → fits_in (settings_of old).limits.bufsize head framing ≡ fits
  pub finished : fits ≡ true → (head : Head) → list_of old.request ≡ head_blocks head → list_of new.request ≡ head_blocks (finish_request head framing)
  pub same : fits ≡ false → new ≡ old

pub finishes_for : (d : Directions) (r : RequestSide) (framing : Framing) (fits : Bool) → HasRead d → FinishesHead d.request r framing fits → Finishes d (record d { request = r }) framing fits
finishes_for d r framing fits read f =
    record {
      read = read_edited d r read f.edits;
      answer = refl;
      rules = refl;
      method = refl;
      edits = f.edits;
      fits_is = λ head is. subst (λ (l : Limits). fits_in l.bufsize head framing ≡ fits) read.still.sound.request_limits (f.fits_is head is);
      finished = f.finished;
      same = λ off. ap (λ (x : RequestSide). record d { request = x }) (f.same off);
    }

-- the finished head stands there
pub head_finished : (old mid : Directions) (framing : Framing) → IsHead (list_of old.request) → Finishes old mid framing true → IsHead (list_of mid.request)
head_finished old mid framing head f = (finish_request head.0 framing, f.finished refl head.0 head.1)

-- ---- it goes out

-- the answer direction knows of the request
pub record BeginsAnswer (old new : AnswerSide) (asker : Asker) : Type 0 where
  pub leads : (cfg : Config) (was asking : Asking Variables) (server : Coming) (put : List ℕ) (now : Variables) (saying : Saying) → AnswerStands cfg old was server put now saying
      → IsAsker asker (asker_in asking) → AnswerStands cfg new asking server put now saying
  pub seen : answers.seen new ≡ answers.seen old
  pub place : answers.place_of new ≡ answers.place_of old
  pub sound : IsSoundSide new
  pub size : answers.size_of new ≡ answers.size_of old
  pub window_size : answers.window_size_of new ≡ answers.window_size_of old

-- the request direction sends it
pub record SendsRequest (old new : RequestSide) (framing : Framing) (waits : Bool) : Type 0 where
  pub sound : IsSound new
  pub leads : SendsOn old new framing
  pub place : requests.place_of new ≡ asked.Sending
  pub is_open : requests.is_open new ≡ requests.is_open old
  pub window : requests.window_of new ≡ requests.window_of old
  pub list : list_of new ≡ list_of old
  pub source : (requests.seen new).source ≡ source.Going
  pub sent : (requests.seen new).sent ≡ false
  pub dropped : (requests.seen new).dropped ≡ false
  pub awaits : (requests.seen new).awaits ≡ waits
  pub limits : requests.limits_of new ≡ requests.limits_of old
  pub window_size : requests.window_size_of new ≡ requests.window_size_of old

-- what a core sees of a request that goes out, of which nothing was put out
pub record Begins (q : RequestSeen) (waits : Bool) (blocks : List Block) : Type 0 where
  pub going : q.source ≡ source.Going
  pub sent : q.sent ≡ false
  pub dropped : q.dropped ≡ false
  pub awaits : q.awaits ≡ waits
  pub list : q.list ≡ blocks

-- the head in the array goes out, and the body behind it in this framing
pub record SendsSo (old new : Directions) (framing : Framing) (kept : Kept) : Type 0 where
  pub leads : SendsOn old.request new.request framing
  pub goes : (cfg : Config) (vars : Variables) (came : Coming) (asking : Asking Variables) (reply : Reply Variables)
      → RequestStands cfg new.request vars came asking [] reply → RequestsSo cfg new.request vars came asking []
  pub knows : (cfg : Config) (was asking : Asking Variables) (server : Coming) (put : List ℕ) (now : Variables) (saying : Saying)
      → AnswerStands cfg old.answer was server put now saying → IsAsker (asker_for kept) (asker_in asking) → AnswerStands cfg new.answer asking server put now saying
  pub rules : new.rules ≡ old.rules
  pub method : new.method ≡ old.method
  pub placed : IsAt new at.Opens
  pub windows : KeepsWindows old new
  pub is_open : (request_of new).is_open ≡ (request_of old).is_open
  pub window : (request_of new).window ≡ (request_of old).window
  pub begins : Begins (request_of new) kept.awaits (list_of old.request)
  pub answer : answer_of new ≡ answer_of old

-- what the request direction says of a request that goes out
abbrev pub AreRequests : Type 0
AreRequests = (cfg : Config) (side : RequestSide) (vars : Variables) (came : Coming) (asking : Asking Variables) (to_server : List ℕ) (reply : Reply Variables)
    → requests.place_of side ≡ asked.Sending → RequestStands cfg side vars came asking to_server reply → RequestsSo cfg side vars came asking to_server

pub sends_so : (d : Directions) (a : AnswerSide) (r : RequestSide) (asker : Asker) (framing : Framing) (kept : Kept) → AreRequests → HasRead d → asker ≡ asker_for kept → BeginsAnswer d.answer a asker
    → SendsRequest d.request r framing kept.awaits → SendsSo d (record d { answer = a; request = r }) framing kept
sends_so d a r asker framing kept laws read known b s =
    record {
      leads = s.leads;
      goes = λ cfg vars came asking reply stands. laws cfg r vars came asking [] reply s.place stands;
      knows = λ cfg was asking server put now saying stands is. b.leads cfg was asking server put now saying stands (subst (λ (x : Asker). IsAsker x (asker_in asking)) (sym known) is);
      rules = refl;
      method = refl;
      placed = record {
        sound = sound_request (record d { answer = a }) r s.sound s.limits (sound_answer d a b.sound b.size read.still.sound);
        stand = (s.place, b.place ∙ read.still.silent);
      };
      windows = λ n h. (s.window_size ∙ h.0, b.window_size ∙ h.1);
      is_open = s.is_open;
      window = s.window;
      begins = record { going = s.source; sent = s.sent; dropped = s.dropped; awaits = s.awaits; list = s.list };
      answer = b.seen;
    }

-- what stands there has an end of headers
pub has_end : (blocks : List Block) → ((head : Head) → HasEnd (head_blocks head)) → IsHead blocks → HasEnd blocks
has_end blocks ends head = subst (λ (xs : List Block). HasEnd xs) (sym head.1) (ends head.0)
