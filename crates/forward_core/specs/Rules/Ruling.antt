-- The rules of a configuration in one session.
use Rattle.std.specs.Prelude.{◌≡◌, ℕ, List, [], Bool, true, false, ◌||◌, if◌then◌else◌, Option, Some, None, ⊤}
use Rattle.http_model.specs.Block.{Block}
use Rattle.http_model.specs.Head.{Message, head_blocks, front_blocks, message_blocks}
use Rattle.session_model.specs.Env.{Amended, Edited, Plain}
use Rattle.session_model.specs.Amending.{reply_sent, behind_reply}
use Rattle.forward_core.specs.Meaning.Product.{meaning_of}
use Rattle.forward_core.specs.Meaning.Beginning.{beginning}
use Rattle.forward_core.specs.Rules.Steady.{IsSteady, IsClear}
use Rattle.px_sample.specs.Variables.{Variables}
use Rattle.http_rules.specs.Rule.Actions.{rules_hold_pattern}
use Rattle.http_rules.specs.Action.Outcome.{IsScratch}
use Rattle.http_rules.specs.declared.config.Config.{Config}
use Rattle.http_rules.specs.Valid.{IsValid}
use Rattle.http_rules.specs.declared.verdict.Verdict.{Verdict}
use Rattle.http_rules.specs.declared.verdict.Verdict.TheVariants as verdicts
use Rattle.forward_core.specs.declared.rules.rules.SessionRules.{SessionRules}

-- the configuration, for the peer of its session
abbrev pub config_of : SessionRules → Config
config_of rules = record rules.config.now { peer = rules.peer }

-- the size of its arrays, in bytes
abbrev pub size_of : SessionRules → ℕ
size_of rules = (config_of rules).limits.bufsize

-- the configuration is valid, and the buffers and the array have its size
pub record IsReady (rules : SessionRules) : Type 0 where
  pub valid : IsValid (config_of rules)
  pub scratch : IsScratch (size_of rules) rules.scratch
  pub said : rules.said.size ≡ size_of rules
  pub steady : rules.steady ≡ true → IsSteady (config_of rules)
  -- the variables of the session are those with which it began, and others are there at most where rules ran since
  pub begun : rules.begun ≡ true → rules.vars.sess ≡ (beginning rules.peer).sess
  pub clear : rules.clear ≡ true → IsClear rules.vars

-- some rule has a pattern, so running it takes memory
abbrev pub holds_pattern : Config → Bool
holds_pattern cfg = rules_hold_pattern cfg.request || (rules_hold_pattern cfg.response || rules_hold_pattern cfg.after)

abbrev pub is_pass : Verdict → Bool
is_pass verdicts.Pass = true
is_pass verdicts.Reply = false
is_pass (verdicts.Deny code) = false
is_pass (verdicts.Fail why) = false

-- what the rules on all that the client is sent leave of a message with this body: the edited head in front of it and the
-- variables, or nothing that counts
abbrev pub AmendsFront : (body : List ℕ) → Amended Variables → (edited : Bool) → List Block → Variables → Type 0
AmendsFront body (Edited head after) true blocks vars = (blocks ≡ front_blocks head body) × (vars ≡ after)
AmendsFront body (Edited head after) false blocks vars = ⊥
AmendsFront body Plain true blocks vars = ⊥
AmendsFront body Plain false blocks vars = ⊤

-- the same of a head alone
abbrev pub AmendsHead : Amended Variables → (edited : Bool) → List Block → Variables → Type 0
AmendsHead (Edited head after) true blocks vars = (blocks ≡ head_blocks head) × (vars ≡ after)
AmendsHead (Edited head after) false blocks vars = ⊥
AmendsHead Plain true blocks vars = ⊥
AmendsHead Plain false blocks vars = ⊤

-- the variables of a connection that is kept
abbrev pub kept_with : {Vars : Type 0} → (kept : Bool) → Vars → Option Vars
kept_with kept vars = if kept then Some vars else None

-- What is said for a reply, as the rules on all that the client is sent leave it; where the connection goes on, these are the
-- variables behind it.
pub record SaysReply (cfg : Config) (m : Message) (method : List ℕ) (vars : Variables) (keep kept : Bool) (said : List Block) (now : Variables) : Type 0 where
  pub says : said ≡ message_blocks (reply_sent (meaning_of cfg) m method vars keep)
  pub behind : behind_reply (meaning_of cfg) m method vars keep ≡ kept_with kept now

-- What is said for a reply, as the rules on all that the client is sent leave it. Where they edited it, these are the variables behind
-- it, whether the connection is kept or not; else it is plain.
pub record AmendsReply (cfg : Config) (m : Message) (method : List ℕ) (vars : Variables) (keep edited : Bool) (said : List Block) (now : Variables) : Type 0 where
  pub says : said ≡ message_blocks (reply_sent (meaning_of cfg) m method vars keep)
  pub behind : behind_reply (meaning_of cfg) m method vars true ≡ kept_with edited now

-- a message without trailers stands to be said
pub record IsReply (m : Message) (said : List Block) : Type 0 where
  pub blocks : said ≡ message_blocks m
  pub none : m.trailers ≡ []

-- the message that stands there
abbrev pub HasReply : List Block → Type 0
HasReply said = (m : Message) × IsReply m said
