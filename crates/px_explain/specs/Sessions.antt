-- What a session of the connection that is explained sends its client first.
use Rattle.std.specs.Prelude.{◌≡◌, ◌≢◌, ℕ, List, [], ◌∷◌, ◌++◌, true, false, Option, Some, None, ⊤}
use Rattle.std.specs.List.{AllByRecursion}
use Rattle.http_model.specs.Head.{Head}
use Rattle.http_model.specs.Spelling.{head_text}
use Rattle.session_model.specs.Meaning.{is_interim}
use Rattle.session_model.specs.Stream.{Server, NotThere, Open}
use Rattle.session_model.specs.Session.{Out, Session, interim_text}
use Rattle.http_rules.specs.declared.config.Config.{Config}
use Rattle.forward_core.specs.Meaning.Product.{meaning_of}
use Rattle.rec_format.specs.Entries.{ServerEntry}
use Rattle.rec_format.specs.Recorded.{Visit}
use Rattle.px_explain.specs.Traced.{code_of}

-- what a connect found is this entry: a server with its stream, or none
abbrev pub IsEntry : Option ServerEntry → Server → Type 0
IsEntry None NotThere = ⊤
IsEntry None (Open stream stopped) = ⊥
IsEntry (Some entry) NotThere = ⊥
IsEntry (Some entry) (Open stream stopped) = stream ≡ entry.stream

-- the connects found the entries in their order, as far as there were connects; one past the last entry found nothing
abbrev pub AreEntries : List (Option ServerEntry) → List Server → Type 0
AreEntries entries [] = ⊤
AreEntries [] (server ∷ servers) = IsEntry None server × AreEntries [] servers
AreEntries (entry ∷ entries) (server ∷ servers) = IsEntry entry server × AreEntries entries servers

-- the text is interim heads, and then one with this status
pub record BeginsWithStatus (code : ℕ) (text : List ℕ) : Type 0 where
  pub interim : List Head
  pub are_interim : AllByRecursion (λ head. is_interim head ≡ true) interim
  pub head : Head
  pub rest : List ℕ
  pub text_is : text ≡ interim_text interim ++ (head_text head ++ rest)
  pub status : code_of head.line ≡ code

-- the client is sent this status first, or nothing at all
abbrev pub TellsStatus : Option ℕ → (text : List ℕ) → Type 0
TellsStatus None text = text ≡ []
TellsStatus (Some code) text = BeginsWithStatus code text

-- A session of the connection in which no request is refused for its cut before an answer begins. A connection of a record has no peer.
pub record IsSessionOf (cfg : Config) (visit : Visit) (out : Out) : Type 0 where
  pub nobody : cfg.peer ≡ None
  pub servers : List Server
  pub found : AreEntries visit.servers servers
  pub session : Session (meaning_of cfg) visit.client servers out
  pub uncut : out.cut ≢ Some false
