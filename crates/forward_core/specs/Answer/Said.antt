-- What is said in place of a server's answer.
use Rattle.std.specs.Prelude.{◌≡◌, ◌≢◌, ℕ, List, [], ◌++◌, true, false}
use Rattle.http_model.specs.Head.{Head}
use Rattle.px_sample.specs.Variables.{Variables}
use Rattle.http_rules.specs.declared.config.Config.{Config}
use Rattle.forward_core.specs.Meaning.Product.{meaning_of}
use Rattle.session_model.specs.Answering.{sent_interim}
use Rattle.session_model.specs.Session.{interim_text}
use Rattle.session_core.specs.History.{Coming, gains}
use Rattle.session_core.specs.Leads.{AnswerWaits}
use Rattle.session_core.specs.Sided.{Asking, asker_in, BeginsAlways, Saying}
use Rattle.forward_core.specs.Answer.Seen.{seen}
use Rattle.forward_core.specs.Answer.Stands.{AnswerStands, list_text}
use Rattle.forward_core.specs.declared.answer.side.AnswerSide.{AnswerSide}

-- a part of what is said is put out, all of it where the answer is
pub record SaysMore (cfg : Config) (old new : AnswerSide) (asking : Asking Variables) (server : Coming) (to_client : List ℕ) (now : Variables) (saying : Saying) : Type 0 where
  pub put : List ℕ
  pub left : List ℕ
  pub stands : AnswerStands cfg new asking server (to_client ++ put) now (record saying { left = left })
  pub said : saying.left ≡ put ++ left
  pub window : (seen new).window ≡ (seen old).window ++ put
  pub all : (seen new).answered ≡ true → left ≡ []
  pub waits : (seen new).answered ≡ false → (seen new).window ≢ []

-- interim heads, each whole, and this list are to be said
pub record TurnsTo (cfg : Config) (new : AnswerSide) (asking : Asking Variables) (server : Coming) (to_client : List ℕ) (now : Variables) (head : Head) (body : List ℕ) : Type 0 where
  pub left : List ℕ
  pub stands : AnswerStands cfg new asking server to_client now (record { text = list_text (asker_in asking).head_asked head body; left = left })
  pub heads : List Head
  pub begins : BeginsAlways (meaning_of cfg) (asker_in asking) server heads
  pub said : to_client ++ left ≡ interim_text (sent_interim (asker_in asking) heads) ++ list_text (asker_in asking).head_asked head body
  pub starts : (seen new).answered ≡ false

-- more of the last that answers was put out; where that isn't all, it waits for the client or for the server
pub record PutsMore (cfg : Config) (old new : AnswerSide) (asking : Asking Variables) (server : Coming) (to_client : List ℕ) (now : Variables) (saying : Saying) : Type 0 where
  pub put : List ℕ
  pub stands : AnswerStands cfg new asking server (to_client ++ put) now saying
  pub window : (seen new).window ≡ (seen old).window ++ put
  pub waits : AnswerWaits (seen new)

-- more of the last that answers was put out
pub record PutsSome (cfg : Config) (old new : AnswerSide) (asking : Asking Variables) (server : Coming) (to_client : List ℕ) (now : Variables) (saying : Saying) : Type 0 where
  pub put : List ℕ
  pub stands : AnswerStands cfg new asking server (to_client ++ put) now saying
  pub window : (seen new).window ≡ (seen old).window ++ put

-- from each past of an answer direction these bytes lead to another, with more put out
abbrev pub AnswerPuts : AnswerSide → AnswerSide → List ℕ → Type 0
AnswerPuts old new bytes =
    (cfg : Config) (asking : Asking Variables) (server : Coming) (put : List ℕ) (now : Variables) (saying : Saying)
    → AnswerStands cfg old asking server put now saying → PutsSome cfg old new asking (gains server bytes) put now saying
