-- Parts of work in turn, and the note of the whole.
use Rattle.std.proofs.Common.{◌≡◌, Bool, Option, Some, None, sym, subst, ◌∙◌, inl, inr, arith}
use Rattle.session_model.specs.Meaning.{Meaning}
use Rattle.session_core.specs.History.{Work}
use Rattle.session_core.specs.Sided.{Sided, RequestSeen, AnswerSeen}
use Rattle.session_core.specs.Leads.{Stands, Leads, Keeps, IsNote, Meets}
use Rattle.session_core.specs.declared.machine.At.{At}

pub meets_on : (old mid new : Option Bool) (begun : Bool) → Meets old mid begun → new ≡ mid → Meets old new begun
meets_on old mid new begun (inl e) f = inl (f ∙ e)
meets_on old mid new begun (inr e) f = inr (e.0, f ∙ e.1)

-- what a call of work leads to, of what its parts keep
pub record Noted {C : Type 0} (meaning : C → Meaning) {D : Type 0} (request : D → RequestSeen) (answer : D → AnswerSeen) (stands : (cfg : C) → D → Sided (meaning cfg) → Type 0) (old : D) (old_at : At) (new : D) (new_at : At) (begun : Bool) : Type 0 where
  pub note : Option Bool
  pub is : IsNote old_at.cut new_at.cut begun note
  pub leads : Leads meaning request answer stands old old_at new new_at (Work note)

pub noted : {C : Type 0} (meaning : C → Meaning) {D : Type 0} (request : D → RequestSeen) (answer : D → AnswerSeen) (stands : (cfg : C) → D → Sided (meaning cfg) → Type 0) (old : D) (old_at : At) (new : D) (new_at : At) (begun : Bool)
    → Keeps meaning request answer stands old old_at new new_at → Meets old_at.cut new_at.cut begun → Noted meaning request answer stands old old_at new new_at begun
noted meaning request answer stands old old_at new new_at begun k (inl e) =
    record {
      note = None;
      is = record { none = λ _. e; met = λ b so. absurd (grind (arith, so)) };
      leads = λ cfg past s.
          let P : Option Bool → Type 0 = λ n. Stands (meaning cfg) request answer (stands cfg) new new_at (record past { note = n }) in
          subst P (e ∙ sym s.holds.note) (k cfg past s);
    }
noted meaning request answer stands old old_at new new_at begun k (inr e) =
    record {
      note = Some begun;
      is = record { none = λ so. absurd (grind (arith, so)); met = λ b so. (e.0, e.1 ∙ so, same b so) };
      leads = λ cfg past s.
          let P : Option Bool → Type 0 = λ n. Stands (meaning cfg) request answer (stands cfg) new new_at (record past { note = n }) in
          subst P e.1 (k cfg past s);
    }
  where
    same : (b : Bool) → Some begun ≡ Some b → b ≡ begun
    same b so = grind (arith, so)

-- a part of work that leaves the note as it is
pub unnoted : {C : Type 0} (meaning : C → Meaning) {D : Type 0} (request : D → RequestSeen) (answer : D → AnswerSeen) (stands : (cfg : C) → D → Sided (meaning cfg) → Type 0) (old : D) (old_at : At) (new : D) (new_at : At)
    → Keeps meaning request answer stands old old_at new new_at → new_at.cut ≡ old_at.cut → Leads meaning request answer stands old old_at new new_at (Work None)
unnoted meaning request answer stands old old_at new new_at k e = λ cfg past s.
    let P : Option Bool → Type 0 = λ n. Stands (meaning cfg) request answer (stands cfg) new new_at (record past { note = n }) in
    subst P (e ∙ sym s.holds.note) (k cfg past s)
