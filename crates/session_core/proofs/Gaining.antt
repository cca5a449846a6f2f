-- Bytes of a server that come in two parts, of which the first went to the client at once.
use Rattle.std.proofs.Common.{◌≡◌, ◌≢◌, ◌+◌, ◌<◌, ◌≤◌, ◌⊎◌, inl, inr, ℕ, suc, zero, true, List, [], ◌∷◌, ◌++◌, take, drop, ◌∙◌, refl, ap, sym, subst, append_assoc, false, Option, Some, arith, Bool}
use Rattle.std.proofs.lemmas.List.{take-append-drop}
use Rattle.session_model.specs.Meaning.{Meaning}
use Rattle.session_core.specs.History.{Past, Connect, FromServer, after, at_last, given_by, gains}
use Rattle.session_core.specs.Sided.{Sided, RequestSeen, AnswerSeen}
use Rattle.session_core.specs.Stands.{Holds}
use Rattle.session_core.specs.Waits.{is_turned, IsAtOnce, IsNone, IsTaken}
use Rattle.session_core.specs.Leads.{StepsAnswer}
use Rattle.session_core.specs.declared.machine.At.{At}
use Rattle.session_core.specs.declared.Phase.TheVariants as phase
use Rattle.session_core.proofs.Events.{holds_in, while_serving, server_gives}
use Rattle.session_core.proofs.Answering.{answers_on}

gives_both : (a b : List ℕ) (c : Connect) → given_by b (given_by a c) ≡ given_by (a ++ b) c
gives_both a b c = ap (λ (xs : List ℕ). let d : Connect = record c { stream = record c.stream { bytes = xs } } in d) (append_assoc c.stream.bytes a b)

last_gives_both : (a b : List ℕ) (cs : List Connect) → at_last (given_by b) (at_last (given_by a) cs) ≡ at_last (given_by (a ++ b)) cs
last_gives_both a b [] = refl
last_gives_both a b (c ∷ []) = ap (λ d. d ∷ []) (gives_both a b c)
last_gives_both a b (c ∷ d ∷ []) = ap (λ cs. c ∷ cs) (last_gives_both a b (d ∷ []))
last_gives_both a b (c ∷ d ∷ e ∷ es) = ap (λ cs. c ∷ cs) (last_gives_both a b (d ∷ e ∷ es))

-- what comes in two parts comes to what comes at once
pub gives_parts : (past : Past) (n : ℕ) (bytes : List ℕ) → after (after past (FromServer (take n bytes))) (FromServer (drop n bytes)) ≡ after past (FromServer bytes)
gives_parts past n bytes =
    ap (λ (cs : List Connect). let p : Past = record past { connects = cs } in p) (last_gives_both (take n bytes) (drop n bytes) past.connects)
    ∙ ap (λ xs. after past (FromServer xs)) (take-append-drop n bytes)

-- bytes that come, and a step that puts out what they bring
pub passes_on : (M : Meaning) (S : Sided M → Type 0) (at : At) (q : RequestSeen) (a b : AnswerSeen) (p : Sided M) (past : Past) (bytes : List ℕ)
    → at.phase ≡ phase.Serving → at.cut ≢ Some false → a.is_open ≡ true → b.is_open ≡ a.is_open
    → (st : StepsAnswer M S a b (record p { server = gains p.server bytes }))
    → Holds M at q a p past → Holds M at q b (record p { server = gains p.server bytes; to_client = p.to_client ++ st.put; now = st.behind }) (after past (FromServer bytes))
passes_on M S at q a b p past bytes is other opened same st h =
    let mid : AnswerSeen = record a { at_rest = false } in
    let come : Sided M = record p { server = gains p.server bytes } in
    let came : Past = after past (FromServer bytes) in
    let steps : StepsAnswer M S mid b come =
    record { put = st.put; behind = st.behind; stands = st.stands; answers = st.answers; before = st.before; window = st.window; began = st.began; heard = st.heard } in
    let held : Holds M at q mid come came = holds_in M at phase.Serving _ _ _ _ is
    (while_serving M at phase.Serving q q a mid p come past (given_by bytes) is refl refl refl refl refl (λ d now s n. server_gives M q a p bytes a.room at.cut d opened s) h) in
    let N : Option Bool → Type 0 = λ note. Holds M at q b (record come { to_client = come.to_client ++ steps.put; now = steps.behind }) (record came { note = note }) in
    subst N (sym held.note) (answers_on M S at q mid b come came is other same steps held)

-- either none went at once or some did
pub some_or_none : (n : ℕ) (T : Type 0) → (n ≡ 0 → T) → (0 < n → T) → T
some_or_none zero T none some = none refl
some_or_none (suc n) T none some = some (grind (arith))

-- bytes for which there is room, or that the directions take at once
pub takes_room : (goes : ℕ → Type 0) (cut : Option Bool) (n room : ℕ) → (n ≤ room) ⊎ IsAtOnce goes cut n → (n ≤ room) ⊎ goes n
takes_room goes cut n room (inl fits) = inl fits
takes_room goes cut n room (inr (IsNone none)) = inl (omega arith)
takes_room goes cut n room (inr (IsTaken other all)) = inr all

-- where a refusal took the place of the answer they take none so
pub turned_room : (goes : ℕ → Type 0) (cut : Option Bool) (n room : ℕ) → cut ≡ Some false → (n ≤ room) ⊎ IsAtOnce goes cut n → n ≤ 0 + room
turned_room goes cut n room turned (inl fits) = omega arith
turned_room goes cut n room turned (inr (IsNone none)) = omega arith
turned_room goes cut n room turned (inr (IsTaken other all)) = absurd (let both : true ≡ false = sym (ap is_turned turned) ∙ other in cc both)
