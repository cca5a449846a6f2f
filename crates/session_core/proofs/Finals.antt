-- What follows the last that answers.
use Rattle.std.proofs.Common.{◌≡◌, ◌≢◌, List, Bool, true, false, ◌&&◌, Option, Some, None, sym, subst, refl, if◌then◌else◌}
use Rattle.http_model.specs.declared.End.TheVariants as end
use Rattle.http_model.specs.Head.{Head}
use Rattle.session_model.specs.Stream.{Stream}
use Rattle.session_model.specs.Meaning.{Meaning}
use Rattle.session_model.specs.Asking.{Request}
use Rattle.session_model.specs.Env.{Amended, Edited, Plain}
use Rattle.session_model.specs.Amending.{amended}
use Rattle.session_model.specs.Answering.{Final, Refuses, Replies, Answers, Answered}
use Rattle.session_model.specs.Answering as finals
use Rattle.session_model.specs.Session.{Over, Next, after_final, after_reply}
use Rattle.session_core.specs.Sided.{ToldIs, IsTold, is_cut, goes_on_with}
use Rattle.session_core.specs.declared.Told.{Told}
use Rattle.session_core.specs.declared.Told.TheVariants as told

-- the variables behind a reply, of what the rules on all that the client is sent made of it
abbrev behind_amended : {Vars : Type 0} → (keep : Bool) → Amended Vars → Option Vars
behind_amended keep (Edited head after) = if keep then Some after else None
behind_amended keep Plain = None

-- a reply that doesn't let a connection go on doesn't where it isn't to be kept, and one that does doesn't then
closes_amended : {Vars : Type 0} (x : Amended Vars) (kept : Bool) → behind_amended true x ≡ None → behind_amended kept x ≡ None
closes_amended (Edited head after) kept e = cc
closes_amended Plain kept e = refl

not_kept : {Vars : Type 0} (x : Amended Vars) → behind_amended false x ≡ None
not_kept (Edited head after) = refl
not_kept Plain = refl

after_none : (M : Meaning) (rest : Stream) (o : Option M.Vars) → o ≡ None → after_reply M rest o ≡ Over end.Closed
after_none M rest o e = rw e refl

after_some : (M : Meaning) (rest : Stream) (o : Option M.Vars) (next : M.Vars) → o ≡ Some next → after_reply M rest o ≡ Next rest (M.renewed next)
after_some M rest o next e = rw e refl

-- the session closes behind a last that isn't cut and doesn't let the connection go on
closes_of : (M : Meaning) (request : Request M.Vars) (whole : Bool) (interim : List Head) (f : Final M.Vars) → is_cut f ≡ false → goes_on_with M f ≡ None
    → after_final M request whole (record { interim = interim; final = f }) ≡ Over end.Closed
closes_of M request whole interim (Refuses code method vars) uncut none = refl
closes_of M request whole interim (Replies m method vars) uncut none =
    after_none M request.rest _ (closes_amended (amended M m method vars) (whole && request.asker.keep) none)
closes_of M request whole interim (Answers m true vars) uncut none = cc
closes_of M request whole interim (Answers m false vars) uncut none = cc
closes_of M request whole interim finals.Plain uncut none = refl

-- the connection isn't kept
unkept_of : (M : Meaning) (request : Request M.Vars) (whole : Bool) (interim : List Head) (f : Final M.Vars) (now : M.Vars) → goes_on_with M f ≡ Some now → (whole && request.asker.keep) ≡ false
    → after_final M request whole (record { interim = interim; final = f }) ≡ Over end.Closed
unkept_of M request whole interim (Refuses code method vars) now some closed = cc
unkept_of M request whole interim (Replies m method vars) now some closed =
    let P : Bool → Type 0 = λ kept. after_reply M request.rest (behind_amended kept (amended M m method vars)) ≡ Over end.Closed in
    subst P (sym closed) (after_none M request.rest _ (not_kept (amended M m method vars)))
unkept_of M request whole interim (Answers m true vars) now some closed = cc
unkept_of M request whole interim (Answers m false vars) now some closed =
    let P : Bool → Type 0 = λ kept. after_reply M request.rest (if kept then Some vars else None) ≡ Over end.Closed in
    subst P (sym closed) refl
unkept_of M request whole interim finals.Plain now some closed = cc

after_of : (M : Meaning) (request : Request M.Vars) (whole : Bool) (interim : List Head) (now : M.Vars) (f : Final M.Vars) (how : Told)
    → ToldIs M how now f → IsTold how → how ≢ told.Cut → (how ≡ told.Whole → (whole && request.asker.keep) ≡ false)
    → after_final M request whole (record { interim = interim; final = f }) ≡ Over end.Closed
after_of M request whole interim now f told.Going t is other closed = absurd is
after_of M request whole interim now f told.Closes t is other closed = closes_of M request whole interim f t.0 t.1
after_of M request whole interim now f told.Whole t is other closed = unkept_of M request whole interim f now t (closed refl)
after_of M request whole interim now f told.Cut t is other closed = absurd (other refl)

pub after_closed : (M : Meaning) (request : Request M.Vars) (whole : Bool) (a : Answered M.Vars) (now : M.Vars) (how : Told)
    → ToldIs M how now a.final → IsTold how → how ≢ told.Cut → (how ≡ told.Whole → (whole && request.asker.keep) ≡ false) → after_final M request whole a ≡ Over end.Closed
after_closed M request whole a now how t is other closed = after_of M request whole a.interim now a.final how t is other closed

cut_of : (M : Meaning) (request : Request M.Vars) (whole : Bool) (interim : List Head) (f : Final M.Vars) → is_cut f ≡ true
    → after_final M request whole (record { interim = interim; final = f }) ≡ Over end.Cut
cut_of M request whole interim (Refuses code method vars) t = cc
cut_of M request whole interim (Replies m method vars) t = cc
cut_of M request whole interim (Answers m true vars) t = refl
cut_of M request whole interim (Answers m false vars) t = cc
cut_of M request whole interim finals.Plain t = cc

pub after_cut : (M : Meaning) (request : Request M.Vars) (whole : Bool) (a : Answered M.Vars) → is_cut a.final ≡ true → after_final M request whole a ≡ Over end.Cut
after_cut M request whole a t = cut_of M request whole a.interim a.final t

next_of : (M : Meaning) (request : Request M.Vars) (whole : Bool) (interim : List Head) (f : Final M.Vars) (now : M.Vars) → goes_on_with M f ≡ Some now → (whole && request.asker.keep) ≡ true
    → after_final M request whole (record { interim = interim; final = f }) ≡ Next request.rest (M.renewed now)
next_of M request whole interim (Refuses code method vars) now t e = cc
next_of M request whole interim (Replies m method vars) now t e =
    let P : Bool → Type 0 = λ kept. after_reply M request.rest (behind_amended kept (amended M m method vars)) ≡ Next request.rest (M.renewed now) in
    subst P (sym e) (after_some M request.rest _ now t)
next_of M request whole interim (Answers m true vars) now t e = cc
next_of M request whole interim (Answers m false vars) now t e =
    let P : Bool → Type 0 = λ kept. after_reply M request.rest (if kept then Some vars else None) ≡ Next request.rest (M.renewed now) in
    subst P (sym e) (after_some M request.rest _ now t)
next_of M request whole interim finals.Plain now t e = cc

pub after_next : (M : Meaning) (request : Request M.Vars) (whole : Bool) (a : Answered M.Vars) (now : M.Vars) → goes_on_with M a.final ≡ Some now → (whole && request.asker.keep) ≡ true
    → after_final M request whole a ≡ Next request.rest (M.renewed now)
after_next M request whole a now t e = next_of M request whole a.interim a.final now t e
