-- Fetches as they are spelled, and read.
use Rattle.std.proofs.Common.{◌≡◌, ℕ, ℤ, Bool, true, false, cond, List, [], ◌∷◌, length, take, refl, sym, ap, ◌∙◌, arith}
use Rattle.std.proofs.lemmas.Bool.{false≢true, and_from}
use Rattle.std.proofs.lemmas.Bool.Decides.{nat_tests}
use Rattle.std.proofs.lemmas.Slice.Eq.{bytes_eq-Decides}
use Rattle.std.proofs.Math.Seq.{take-append_seam, drop-append-add}
use Rattle.std.specs.Prelude.{◌&&◌, ◌||◌, nat_le, Option, Some, None, Ok, codes}
use Rattle.std.specs.List.{list_any, list_all}
use Rattle.std.specs.Str.{bytes_eq}
use Rattle.std.specs.Fmt.{signed_decimal}
use Rattle.px_peer.specs.Names.{src_name, src_port_name}
use Rattle.px_sample.specs.declared.scope.Scope.{Scope}
use Rattle.px_sample.specs.declared.scope.Scope.TheVariants as scopes
use Rattle.px_sample.specs.declared.fetch.Fetch.{Fetch}
use Rattle.px_sample.specs.declared.fetch.Fetch.TheVariants as fetches
use Rattle.cfg_expr.specs.declared.source.Source.TheVariants.{Of}
use Rattle.cfg_expr.specs.Steps.{◌>>=◌}
use Rattle.cfg_expr.specs.Fetches.{truth, scope_of, is_variable_byte, is_variable_name, is_dot, variable_in, variable_at, variable_of, variable_fetch, bare_fetch, peer_variable, field_fetch, fetch_with, source_of}
use Rattle.cfg_print.specs.Exprs.{is_bare_byte, Call, bare, call, and_number, truth_text, scope_text, variable_text, variable_call, fetch_call}
use Rattle.cfg_laws.specs.Spelled.{is_bare, is_spellable, is_spellable_call, is_occurrence, is_optional, is_field, is_session, is_peer, is_variable, is_spelled_fetch}
use Rattle.cfg_laws.proofs.LawLemmas.Words.{both_left, both_right}
use Rattle.cfg_laws.proofs.LawLemmas.Calls.{first_at, bare_spellable}
use Rattle.cfg_laws.proofs.LawLemmas.Numbers.{number_spellable}
use Rattle.cfg_laws.proofs.LawLemmas.Arguments.{with_number, with_field, with_place, field_spellable, occurrence_spellable}

-- a call that can be said, and that is this fetch
abbrev pub IsFetch : Fetch → Call → Type 0
IsFetch fetch call = (source_of call.name call.arguments ≡ Ok (Of fetch)) × (is_spellable_call call ≡ true)

-- ---- a field

-- an argument, and an occurrence if there is one
field_arguments : (name : List ℕ) (occ : Option ℤ) → (is_field name && is_optional is_occurrence occ) ≡ true → (nat_le (length (name ∷ and_number occ)) 3 && list_all is_spellable (name ∷ and_number occ)) ≡ true
field_arguments name None h = and_from (is_spellable name) true (field_spellable name (both_left (is_field name) true h)) refl
field_arguments name (Some n) h =
    and_from (is_spellable name) (is_spellable (signed_decimal n) && true) (field_spellable name (both_left (is_field name) (is_occurrence n) h))
    (and_from (is_spellable (signed_decimal n)) true (occurrence_spellable n (both_right (is_field name) (is_occurrence n) h)) refl)

req_hdr : (name : List ℕ) (occ : Option ℤ) → (is_field name && is_optional is_occurrence occ) ≡ true → source_of (codes "req.hdr") (name ∷ and_number occ) ≡ Ok (Of (fetches.ReqHdr name occ))
unfolding source_of field_fetch
req_hdr name None h = with_field name (λ field. Of (fetches.ReqHdr field None)) (both_left (is_field name) true h)
req_hdr name (Some n) h = with_place name n (λ field occ. Of (fetches.ReqHdr field (Some occ))) (both_left (is_field name) (is_occurrence n) h) (both_right (is_field name) (is_occurrence n) h)

res_hdr : (name : List ℕ) (occ : Option ℤ) → (is_field name && is_optional is_occurrence occ) ≡ true → source_of (codes "res.hdr") (name ∷ and_number occ) ≡ Ok (Of (fetches.ResHdr name occ))
unfolding source_of field_fetch
res_hdr name None h = with_field name (λ field. Of (fetches.ResHdr field None)) (both_left (is_field name) true h)
res_hdr name (Some n) h = with_place name n (λ field occ. Of (fetches.ResHdr field (Some occ))) (both_left (is_field name) (is_occurrence n) h) (both_right (is_field name) (is_occurrence n) h)

req_fhdr : (name : List ℕ) (occ : Option ℤ) → (is_field name && is_optional is_occurrence occ) ≡ true → source_of (codes "req.fhdr") (name ∷ and_number occ) ≡ Ok (Of (fetches.ReqFhdr name occ))
unfolding source_of field_fetch
req_fhdr name None h = with_field name (λ field. Of (fetches.ReqFhdr field None)) (both_left (is_field name) true h)
req_fhdr name (Some n) h = with_place name n (λ field occ. Of (fetches.ReqFhdr field (Some occ))) (both_left (is_field name) (is_occurrence n) h) (both_right (is_field name) (is_occurrence n) h)

res_fhdr : (name : List ℕ) (occ : Option ℤ) → (is_field name && is_optional is_occurrence occ) ≡ true → source_of (codes "res.fhdr") (name ∷ and_number occ) ≡ Ok (Of (fetches.ResFhdr name occ))
unfolding source_of field_fetch
res_fhdr name None h = with_field name (λ field. Of (fetches.ResFhdr field None)) (both_left (is_field name) true h)
res_fhdr name (Some n) h = with_place name n (λ field occ. Of (fetches.ResFhdr field (Some occ))) (both_left (is_field name) (is_occurrence n) h) (both_right (is_field name) (is_occurrence n) h)

-- ---- a variable

scope_back : (scope : Scope) → scope_of (scope_text scope) ≡ Some scope
unfolding scope_of
scope_back scopes.Sess = refl
scope_back scopes.Txn = refl
scope_back scopes.Req = refl
scope_back scopes.Res = refl

no_dot : (scope : Scope) → list_any is_dot (scope_text scope) ≡ false
no_dot scopes.Sess = refl
no_dot scopes.Txn = refl
no_dot scopes.Req = refl
no_dot scopes.Res = refl

pub variable_back : (scope : Scope) (name : List ℕ) → is_variable_name name ≡ true → variable_of (variable_text scope name) ≡ Some (scope, name)
unfolding variable_of
variable_back scope name h =
    let front = scope_text scope in
    let text = variable_text scope name in
    ap (variable_at text) (first_at is_dot front 46 name (no_dot scope) refl)
    ∙ ap (λ bytes. variable_in bytes (scope_of (take (length front) text))) (drop-append-add front (46 ∷ name) 1)
    ∙ ap (λ bytes. variable_in name (scope_of bytes)) (take-append_seam front (46 ∷ name))
    ∙ ap (variable_in name) (scope_back scope) ∙ ap (λ t. cond t (Some (scope, name)) None) h

variable_byte : (b : ℕ) → is_variable_byte b ≡ true → is_bare_byte b ≡ true
variable_byte b h = grind (arith, nat_tests)

variable_bytes : (name : List ℕ) → list_all is_variable_byte name ≡ true → list_all is_bare_byte name ≡ true
variable_bytes [] h = refl
variable_bytes (b ∷ name) h =
    and_from (is_bare_byte b) (list_all is_bare_byte name) (variable_byte b (both_left (is_variable_byte b) (list_all is_variable_byte name) h))
    (variable_bytes name (both_right (is_variable_byte b) (list_all is_variable_byte name) h))

-- behind any scope
variable_bare : (scope : Scope) (name : List ℕ) → list_all is_bare_byte name ≡ true → is_bare (variable_text scope name) ≡ true
variable_bare scopes.Sess name h = and_from (list_all is_bare_byte name) true h refl
variable_bare scopes.Txn name h = and_from (list_all is_bare_byte name) true h refl
variable_bare scopes.Req name h = and_from (list_all is_bare_byte name) true h refl
variable_bare scopes.Res name h = and_from (list_all is_bare_byte name) true h refl

spoken : (scope : Scope) (name : List ℕ) → is_variable_name name ≡ true → IsFetch (fetches.Var scope name) (call (codes "var") (variable_text scope name ∷ []))
unfolding source_of field_fetch fetch_with
spoken scope name h =
    let arg = variable_text scope name in
    let bytes = variable_bytes name (both_right (nat_le 1 (length name)) (list_all is_variable_byte name) h) in
    (ap (λ found. variable_fetch found >>= λ fetch. Ok (Of fetch)) (variable_back scope name h), and_from (is_spellable arg) true (bare_spellable arg (variable_bare scope name bytes)) refl)

-- a name that no text says is one of the session's
of_session : (scope : Scope) (name : List ℕ) → is_variable_name name ≡ false → is_variable scope name ≡ true → scope ≡ scopes.Sess
of_session scopes.Sess name bad h = refl
of_session scopes.Txn name bad h = absurd (false≢true (sym (ap (λ t. t || false) bad) ∙ h))
of_session scopes.Req name bad h = absurd (false≢true (sym (ap (λ t. t || false) bad) ∙ h))
of_session scopes.Res name bad h = absurd (false≢true (sym (ap (λ t. t || false) bad) ∙ h))

src_call : (scope : Scope) (name : List ℕ) → bytes_eq name src_name ≡ true → is_variable scope name ≡ true → IsFetch (fetches.Var scope name) (bare (codes "src"))
unfolding source_of peer_variable
src_call scope name is h =
    let same = (bytes_eq-Decides name src_name).0 is in
    let session = of_session scope name (ap is_variable_name same) h in
    (ap (λ s. Ok (Of (fetches.Var s src_name))) (sym session) ∙ ap (λ n. Ok (Of (fetches.Var scope n))) (sym same), refl)

src_port_call : (scope : Scope) (name : List ℕ) → bytes_eq name src_port_name ≡ true → is_variable scope name ≡ true → IsFetch (fetches.Var scope name) (bare (codes "src_port"))
unfolding source_of peer_variable
src_port_call scope name is h =
    let same = (bytes_eq-Decides name src_port_name).0 is in
    let session = of_session scope name (ap is_variable_name same) h in
    (ap (λ s. Ok (Of (fetches.Var s src_port_name))) (sym session) ∙ ap (λ n. Ok (Of (fetches.Var scope n))) (sym same), refl)

-- one of two where the other is not
other_one : (a b : Bool) → b ≡ false → (a || b) ≡ true → a ≡ true
other_one true b h i = refl
other_one false b h i = absurd (false≢true (sym h ∙ i))

never : (a : Bool) → (a && false) ≡ false
never true = refl
never false = refl

by_names : (scope : Scope) (name : List ℕ) (t u : Bool) → bytes_eq name src_name ≡ t → bytes_eq name src_port_name ≡ u → is_variable scope name ≡ true
    → IsFetch (fetches.Var scope name) (cond t (bare (codes "src")) (cond u (bare (codes "src_port")) (call (codes "var") (variable_text scope name ∷ []))))
by_names scope name true u is are h = src_call scope name is h
by_names scope name false true is are h = src_port_call scope name are h
by_names scope name false false is are h =
    let apart : is_peer name ≡ false = ap (λ t. t || bytes_eq name src_port_name) is ∙ are in
    let other : (is_session scope && is_peer name) ≡ false = ap (λ t. is_session scope && t) apart ∙ never (is_session scope) in
    spoken scope name (other_one (is_variable_name name) (is_session scope && is_peer name) other h)

var_call : (scope : Scope) (name : List ℕ) → is_variable scope name ≡ true → IsFetch (fetches.Var scope name) (variable_call scope name)
unfolding variable_call
var_call scope name h = by_names scope name (bytes_eq name src_name) (bytes_eq name src_port_name) refl refl h

-- ---- all

-- one argument
one_argument : (arg : List ℕ) → is_spellable arg ≡ true → (is_spellable arg && true) ≡ true
one_argument arg h = and_from (is_spellable arg) true h refl

truth_call : (b : Bool) → IsFetch (fetches.Bool b) (call (codes "bool") (truth_text b ∷ []))
unfolding source_of field_fetch fetch_with truth
truth_call true = (refl, refl)
truth_call false = (refl, refl)

-- a fetch is read back
pub fetch_back : (fetch : Fetch) → is_spelled_fetch fetch ≡ true → IsFetch fetch (fetch_call fetch)
unfolding is_spelled_fetch fetch_call source_of field_fetch fetch_with peer_variable bare_fetch
fetch_back (fetches.ReqHdr name occ) h = (req_hdr name occ h, field_arguments name occ h)
fetch_back (fetches.ResHdr name occ) h = (res_hdr name occ h, field_arguments name occ h)
fetch_back (fetches.ReqFhdr name occ) h = (req_fhdr name occ h, field_arguments name occ h)
fetch_back (fetches.ResFhdr name occ) h = (res_fhdr name occ h, field_arguments name occ h)
fetch_back (fetches.ReqHdrCnt name) h = (ap (λ told. told >>= λ fetch. Ok (Of fetch)) (with_field name (λ field. fetches.ReqHdrCnt field) h), one_argument name (field_spellable name h))
fetch_back (fetches.ResHdrCnt name) h = (ap (λ told. told >>= λ fetch. Ok (Of fetch)) (with_field name (λ field. fetches.ResHdrCnt field) h), one_argument name (field_spellable name h))
fetch_back fetches.Path h = (refl, refl)
fetch_back fetches.Query h = (refl, refl)
fetch_back fetches.Pathq h = (refl, refl)
fetch_back fetches.Url h = (refl, refl)
fetch_back fetches.Base h = (refl, refl)
fetch_back (fetches.UrlParam name) h = (refl, one_argument name h)
fetch_back fetches.Method h = (refl, refl)
fetch_back fetches.ReqVer h = (refl, refl)
fetch_back fetches.ResVer h = (refl, refl)
fetch_back fetches.Status h = (refl, refl)
fetch_back (fetches.Var scope name) h = var_call scope name h
fetch_back (fetches.Str text) h = (refl, one_argument text h)
fetch_back (fetches.Int n) h = (ap (λ told. told >>= λ fetch. Ok (Of fetch)) (with_number n (λ m. fetches.Int m) h), one_argument (signed_decimal n) (number_spellable n h))
fetch_back (fetches.Bool b) h = truth_call b
fetch_back fetches.AlwaysTrue h = (refl, refl)
fetch_back fetches.AlwaysFalse h = (refl, refl)
