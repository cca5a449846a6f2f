-- What the answer direction of a session that is at rest has put out, in words of the session.
use Rattle.std.specs.Prelude.{◌≡◌, ℕ, List, ◌++◌, false, None}
use Rattle.http_model.specs.Finish.{response_framing}
use Rattle.http_model.specs.Head.{Head}
use Rattle.http_model.specs.Reading.{Received, Begins}
use Rattle.h1_head.specs.Decides.{MayWait}
use Rattle.h1_head.specs.Kind.{response_heads}
use Rattle.h1_body.specs.BodyOf.{BodyRead, IsBodyOf}
use Rattle.body_filter.specs.Filter.{filtered}
use Rattle.px_sample.specs.Variables.{Variables}
use Rattle.http_rules.specs.declared.config.Config.{Config}
use Rattle.forward_core.specs.Meaning.Product.{meaning_of, replaces}
use Rattle.session_model.specs.Env.{Env, Pass, Edited, response_env}
use Rattle.session_model.specs.Meaning.{is_interim}
use Rattle.session_model.specs.Asking.{Asker}
use Rattle.session_model.specs.Answering.{sent_interim, finished_response}
use Rattle.session_model.specs.Session.{interim_text}
use Rattle.session_core.specs.History.{Coming}
use Rattle.session_core.specs.Sided.{BeginsAlways}
use Rattle.lane.specs.Direction.Promise.{body_in}
use Rattle.lane.specs.Direction.Sent.{Cut, SpellsAs}
use Rattle.lane.specs.Answering.{HeadsCame, Reads}
use Rattle.lane.specs.Resting.{served}

-- A final head is waited for: the server's stream begins with these interim heads, however it goes on, and all of them that its client is sent
-- were put out. It hasn't ended, and what follows them is no head and allows More.
pub record AwaitsHead (cfg : Config) (asker : Asker) (server : Coming) (put : List ℕ) : Type 0 where
  pub heads : List Head
  pub begins : BeginsAlways (meaning_of cfg) asker server heads
  pub out : put ≡ interim_text (sent_interim asker heads)
  pub is_open : server.ending ≡ None
  pub left : List ℕ
  pub came : HeadsCame asker.head_asked cfg.limits server.ending heads server.bytes left
  pub waits : MayWait (response_heads asker.head_asked) cfg.limits false left

-- All that came of the server's response was put out, but what filters keep back: the interim heads, each whole, the final head as rules left
-- it, finished, and the body so far.
pub record PutsOutBody (cfg : Config) (asker : Asker) (before : Variables) (server : Coming) (put : List ℕ) (now : Variables) : Type 0 where
  -- the interim heads, the final one, and the bytes behind it
  pub heads : List Head
  pub left : List ℕ
  pub came : HeadsCame asker.head_asked cfg.limits server.ending heads server.bytes left
  pub received : Received
  pub bytes : List ℕ
  pub reads : Reads asker.head_asked cfg.limits server.ending left (λ more. Begins received (bytes ++ more))
  pub is_final : is_interim received.head ≡ false
  -- the head as rules left it
  pub at : Env Variables
  pub rules : (meaning_of cfg).response_rules (response_env before asker.method received.head) ≡ Pass at
  pub head : Head
  pub after : (meaning_of cfg).after_rules at ≡ Edited head now
  -- the text
  pub text : List ℕ
  pub put_is : put ≡ interim_text (sent_interim asker heads) ++ text
  pub spells : (read : BodyRead) → IsBodyOf cfg.limits received.framing bytes server.ending read
      → SpellsAs (served (finished_response (meaning_of cfg) asker received head) (response_framing (replaces cfg.res_filters) asker.is_http_11 received.framing) asker.head_asked)
      (filtered cfg.res_filters false (body_in read)).output Cut text
