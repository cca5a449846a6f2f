-- Messages that are said as the blocks of one list.
use Rattle.std.proofs.Common.{◌≡◌, ℕ, List, [], ◌++◌, Bool, true, false, refl, sym, ap, ◌∙◌, subst, map, if◌then◌else◌}
use Rattle.std.proofs.lemmas.List.{append-nil}
use Rattle.http_model.specs.declared.Framing.{Framing}
use Rattle.http_model.specs.declared.Framing.TheVariants as framing
use Rattle.http_model.specs.Head.{Field, Head, Message, front_blocks, message_blocks, ended_trailers, trailer_block, with_head}
use Rattle.http_model.specs.Refusal.{refusal, closing}
use Rattle.http_model.specs.Spelling.{Spells, SpellsBody, head_text}
use Rattle.px_sample.specs.Variables.{Variables}
use Rattle.http_rules.specs.declared.config.Config.{Config}
use Rattle.session_model.specs.Env.{Env, Amended, Edited, Plain, reply_env}
use Rattle.session_model.specs.Meaning.{Meaning}
use Rattle.session_model.specs.Amending.{amended, closing_fits, reply_sent, plain_refusal}
use Rattle.forward_core.specs.Answer.Listed.{IsListed, IsSentAsItIs}
use Rattle.forward_core.specs.Answer.Stands.{list_text}
use Rattle.forward_core.specs.Answer.Status.{is_status_line}
use Rattle.forward_core.specs.Meaning.Product.{meaning_of}
use Rattle.forward_core.proofs.AnswerLemmas.Lines.{edited_line}

pub listed_blocks : (m : Message) → IsListed m → message_blocks m ≡ front_blocks m.head m.body
listed_blocks m l = ap (λ (ts : List Field). front_blocks m.head m.body ++ ended_trailers (map trailer_block ts)) l.trailers ∙ append-nil (front_blocks m.head m.body)

-- the body of a message, as it is
body_by : (framed : Framing) (body : List ℕ) (trailers : List Field) → trailers ≡ [] → IsSentAsItIs framed body → SpellsBody true framed body trailers body
body_by framing.Absent body trailers none is = is
body_by (framing.Length n) body trailers none is = refl
body_by framing.ToClose body trailers none is = refl
body_by framing.Chunked body trailers none is = absurd is

pub listed_spells : (m : Message) (no_body : Bool) → IsListed m → Spells true no_body m (list_text no_body m.head m.body)
listed_spells m true l = record { body = []; spelled = sym (append-nil (head_text m.head)); spells_body = refl }
listed_spells m false l = record { body = m.body; spelled = refl; spells_body = body_by m.framing m.body m.trailers l.trailers l.framed }

pub closing_listed : (m : Message) → IsListed m → IsListed (closing m)
closing_listed m l = record { line = l.line; trailers = l.trailers; framed = l.framed }

pub refusal_listed : (code : ℕ) → IsListed (refusal code)
refusal_listed code = record { line = refl; trailers = refl; framed = tt }

plain_listed : IsListed plain_refusal
plain_listed = record { line = refl; trailers = refl; framed = tt }

kept : (m : Message) (keep : Bool) → IsListed m → IsListed (if keep then m else closing m)
kept m true l = l
kept m false l = closing_listed m l

-- a response stays one
abbrev LinesStay : Meaning → Type 0
LinesStay M = (env : Env M.Vars) (head : Head) (after : M.Vars) → M.after_rules env ≡ Edited head after → is_status_line env.head.line ≡ true → is_status_line head.line ≡ true

abbrev IsEdited : {Vars : Type 0} → Amended Vars → Type 0
IsEdited (Edited head after) = is_status_line head.line ≡ true
IsEdited Plain = Unit {0}

fitted : {Vars : Type 0} (t : Bool) (head : Head) (after : Vars) → is_status_line head.line ≡ true → IsEdited (if t then Edited head after else Plain)
fitted true head after h = h
fitted false head after h = tt

amended_line : (M : Meaning) (m : Message) (method : List ℕ) (vars : M.Vars) → LinesStay M → is_status_line m.head.line ≡ true → IsEdited (amended M m method vars)
amended_line M m method vars stay h = by (M.after_rules (reply_env vars method m)) refl
  where
    by : (x : Amended M.Vars) → M.after_rules (reply_env vars method m) ≡ x → IsEdited (amended M m method vars)
    by (Edited head after) e = rw e (fitted (closing_fits M (with_head m head)) head after (stay (reply_env vars method m) head after e h))
    by Plain e = rw e tt

listed_in : (M : Meaning) (m : Message) (method : List ℕ) (vars : M.Vars) (keep : Bool) → LinesStay M → IsListed m → IsListed (reply_sent M m method vars keep)
listed_in M m method vars keep stay l = by (amended M m method vars) refl (amended_line M m method vars stay l.line)
  where
    by : (x : Amended M.Vars) → amended M m method vars ≡ x → IsEdited (amended M m method vars) → IsListed (reply_sent M m method vars keep)
    by (Edited head after) e h = rw e (kept (with_head m head) keep (record { line = subst (λ (x : Amended M.Vars). IsEdited x) e h; trailers = l.trailers; framed = l.framed }))
    by Plain e h = rw e plain_listed

-- what is sent for a message of this kind is of this kind
pub reply_listed : (cfg : Config) (m : Message) (method : List ℕ) (vars : Variables) (keep : Bool) → IsListed m → IsListed (reply_sent (meaning_of cfg) m method vars keep)
reply_listed cfg m method vars keep l =
    listed_in (meaning_of cfg) m method vars keep (λ env head after is h. edited_line cfg.limits.bufsize cfg.after env head after is h) l
