-- Refusals and replies as they stand to be said.
use Rattle.std.proofs.Common.{◌≡◌, ℕ, ◌+◌, List, Bool, true, false, refl, sym, ap, ◌∙◌, subst, arith}
use Rattle.htx_model.specs.Block.{Block}
use Rattle.htx_model.specs.Blocks.{Fits, load}
use Rattle.htx_arena.specs.Layout.Contents.{Contents}
use Rattle.http_model.specs.Head.{Message, message_blocks}
use Rattle.px_sample.specs.Variables.{Variables}
use Rattle.http_rules.specs.declared.config.Config.{Config}
use Rattle.http_rules.specs.Lives.{answering}
use Rattle.forward_core.specs.Meaning.Product.{meaning_of}
use Rattle.session_model.specs.Amending.{refusal_sent}
use Rattle.forward_core.specs.Rules.Ruling.{config_of, size_of, IsReady, SaysReply, kept_with}
use Rattle.forward_core.specs.declared.rules.rules.SessionRules.{SessionRules}
use Rattle.session_core.specs.Stands as core

-- in front of the rules on all that is sent the variables of the request's rules are gone
pub refusal_said : (cfg mid : Config) (code : ℕ) (method : List ℕ) (vars held : Variables) (blocks : List Block) → mid ≡ cfg → held ≡ answering vars
    → blocks ≡ message_blocks (refusal_sent (meaning_of mid) code method held) → blocks ≡ message_blocks (refusal_sent (meaning_of cfg) code method (answering vars))
refusal_said cfg mid code method vars held blocks e v b =
    b ∙ ap (λ (x : Config). message_blocks (refusal_sent (meaning_of x) code method held)) e ∙ ap (λ (x : Variables). message_blocks (refusal_sent (meaning_of cfg) code method x)) v

pub reply_said : (cfg mid : Config) (m : Message) (method : List ℕ) (vars held : Variables) (keep kept : Bool) (blocks : List Block) (now : Variables) → mid ≡ cfg → held ≡ answering vars
    → SaysReply mid m method held keep kept blocks now → SaysReply cfg m method (answering vars) keep kept blocks now
reply_said cfg mid m method vars held keep kept blocks now e v s =
    subst (λ (x : Variables). SaysReply cfg m method x keep kept blocks now) v (subst (λ (x : Config). SaysReply x m method held keep kept blocks now) e s)

-- the rules are ready where only what is said changes, in an array of that size
pub ready_saying : (rules : SessionRules) (said : Contents) → said.size ≡ rules.said.size → IsReady rules → IsReady (record rules { said = said })
ready_saying rules said size r = record { valid = r.valid; scratch = r.scratch; said = size ∙ r.said; steady = r.steady; begun = r.begun; clear = r.clear }

-- what is said fits the array of another of that size
pub said_size : (old new : SessionRules) (size : ℕ) → IsReady new → config_of new ≡ config_of old → size ≡ size_of old → new.said.size ≡ size
said_size old new size r config e = r.said ∙ ap (λ (x : Config). x.limits.bufsize) config ∙ sym e

pub said_fits : (blocks : List Block) (room held size : ℕ) → room + load blocks ≡ held → held ≡ size → Fits blocks size
said_fits blocks room held size e h = omega arith

-- the variables of a connection that is kept, in the words of the rules and of a core
pub kept_alike : (kept : Bool) (vars : Variables) → kept_with kept vars ≡ core.kept_with kept vars
kept_alike true vars = refl
kept_alike false vars = refl
