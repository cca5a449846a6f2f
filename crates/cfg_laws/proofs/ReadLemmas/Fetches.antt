-- A fetch that is read can be said again.
use Rattle.std.proofs.Common.{◌≡◌, ℕ, ◌+◌, ℤ, pos, Bool, true, false, cond, List, [], ◌∷◌, length, take, drop, refl, sym, ap, ◌∙◌, subst}
use Rattle.std.proofs.lemmas.Bool.{and_parts, and_from, or_left}
use Rattle.std.specs.Prelude.{◌&&◌, not, nat_le, int_le, position, Option, Some, None, option_map, Ok, Err, codes}
use Rattle.std.specs.Ordering.{int_eq}
use Rattle.std.specs.List.{list_all}
use Rattle.std.specs.Str.{bytes_eq}
use Rattle.px_bytes.specs.Tokens.{is_token}
use Rattle.px_peer.specs.Names.{src_name, src_port_name}
use Rattle.px_sample.specs.Cast.{number_of_text}
use Rattle.px_sample.specs.declared.scope.Scope.{Scope}
use Rattle.px_sample.specs.declared.scope.Scope.TheVariants as scopes
use Rattle.px_sample.specs.declared.fetch.Fetch.{Fetch}
use Rattle.px_sample.specs.declared.fetch.Fetch.TheVariants as fetches
use Rattle.cfg_expr.specs.declared.fault.TextKind.TheVariants.{Expr}
use Rattle.cfg_expr.specs.declared.source.Source.{Source}
use Rattle.cfg_expr.specs.declared.source.Source.TheVariants as sources
use Rattle.cfg_expr.specs.declared.side.Side.{Side}
use Rattle.cfg_expr.specs.declared.side.Side.TheVariants.{Request, Response}
use Rattle.cfg_expr.specs.Steps.{◌>>=◌}
use Rattle.cfg_expr.specs.Faults.{Told}
use Rattle.cfg_expr.specs.Sides.{is_on, on_side}
use Rattle.cfg_expr.specs.Fetches.{expected, number, count, occurrence, field_name, truth, scope_of, is_variable_name, is_dot, variable_in, variable_at, variable_of, variable_fetch, bare_fetch, peer_variable, bare_source, field_fetch, fetch_with, source_with, source_at_occurrence, source_of}
use Rattle.cfg_laws.specs.Spelled.{is_spellable, is_within, is_count, is_occurrence, is_optional, is_field, is_session, is_peer, is_variable, is_spelled_fetch}
use Rattle.cfg_laws.proofs.ReadLemmas.Steps.{Has, Gives, has_so, gives_so, has_if, gives_if, gives_unless, gives_then, any, gives_any, expected_gives, first_gives, first_has}
use Rattle.cfg_laws.proofs.ReadLemmas.Numbers.{number_within}

-- ---- arguments

pub number_gives : (text : List ℕ) → Gives is_within (number text)
number_gives text = expected_gives is_within (number_of_text text) (number_within text)

pub count_gives : (text : List ℕ) → Gives is_count (count text)
count_gives text = gives_then is_within is_count (number text) (λ n. cond (int_le (pos 0) n) (Ok n) (Err Expr)) (number_gives text)
    (λ n h. gives_if is_count (int_le (pos 0) n) n Expr (λ t. and_from (is_within n) (int_le (pos 0) n) h t))

pub occurrence_gives : (text : List ℕ) → Gives is_occurrence (occurrence text)
occurrence_gives text = gives_then is_within is_occurrence (number text) (λ n. cond (int_eq n (pos 0)) (Err Expr) (Ok n)) (number_gives text)
    (λ n h. gives_unless is_occurrence (int_eq n (pos 0)) n Expr (λ t. and_from (is_within n) (not (int_eq n (pos 0))) h (ap not t)))

pub field_gives : (text : List ℕ) → is_spellable text ≡ true → Gives is_field (field_name text)
field_gives text h =
    let t = is_token text && nat_le (length text) 255 in
    gives_if is_field t text Expr (λ is. and_from t (is_spellable text) is h)

-- ---- a variable

-- a variable that can be said
abbrev pub variable_said : Scope × List ℕ → Bool
variable_said found = is_variable found.0 found.1

name_has : (name : List ℕ) (scope : Option Scope) → Has variable_said (variable_in name scope)
name_has name None = tt
name_has name (Some scope) = has_if variable_said (is_variable_name name) (scope, name) (λ is. or_left (is_variable_name name) (is_session scope && is_peer name) is)

place_has : (text : List ℕ) (at : Option ℕ) → Has variable_said (variable_at text at)
place_has text None = tt
place_has text (Some at) = name_has (drop (at + 1) text) (scope_of (take at text))

pub variable_has : (text : List ℕ) → Has variable_said (variable_of text)
unfolding variable_of
variable_has text = place_has text (position is_dot text)

-- ---- sources

-- a source that can be said, in either direction
abbrev pub is_source : Source → Bool
is_source (sources.Hdr name occ) = is_field name && is_optional is_occurrence occ
is_source (sources.Of fetch) = is_spelled_fetch fetch

peer_has : (name : List ℕ) → Has (is_variable scopes.Sess) (peer_variable name)
unfolding peer_variable
peer_has name = first_has (is_variable scopes.Sess) ((bytes_eq name (codes "src"), src_name) ∷ (bytes_eq name (codes "src_port"), src_port_name) ∷ []) refl

bare_has : (name : List ℕ) → Has is_spelled_fetch (bare_fetch name)
unfolding bare_fetch is_spelled_fetch
bare_has name = first_has is_spelled_fetch (
    (bytes_eq name (codes "path"), fetches.Path) ∷ (bytes_eq name (codes "query"), fetches.Query) ∷ (bytes_eq name (codes "pathq"), fetches.Pathq)
    ∷ (bytes_eq name (codes "url"), fetches.Url) ∷ (bytes_eq name (codes "base"), fetches.Base) ∷ (bytes_eq name (codes "method"), fetches.Method)
    ∷ (bytes_eq name (codes "req.ver"), fetches.ReqVer) ∷ (bytes_eq name (codes "res.ver"), fetches.ResVer) ∷ (bytes_eq name (codes "status"), fetches.Status)
    ∷ (bytes_eq name (codes "always_true"), fetches.AlwaysTrue) ∷ (bytes_eq name (codes "always_false"), fetches.AlwaysFalse) ∷ []
    ) refl

of_gives : (found : Option Fetch) → Has is_spelled_fetch found → Gives is_source (expected (option_map sources.Of found))
of_gives None h = tt
of_gives (Some fetch) h = h

bare_gives : (name : List ℕ) (found : Option (List ℕ)) → Has (is_variable scopes.Sess) found → Gives is_source (bare_source found name)
unfolding is_spelled_fetch
bare_gives name None h = of_gives (bare_fetch name) (bare_has name)
bare_gives name (Some variable) h = h

var_gives : (found : Option (Scope × List ℕ)) → Has variable_said found → Gives is_spelled_fetch (variable_fetch found)
unfolding is_spelled_fetch
var_gives None h = tt
var_gives (Some found) h = h

-- one argument
with_gives : (name arg : List ℕ) → is_spellable arg ≡ true → Gives is_spelled_fetch (fetch_with name arg)
unfolding fetch_with is_spelled_fetch
with_gives name arg h =
    let req_cnt = λ (field : List ℕ). Ok (fetches.ReqHdrCnt field) in
    let res_cnt = λ (field : List ℕ). Ok (fetches.ResHdrCnt field) in
    let int = λ (n : ℤ). Ok (fetches.Int n) in
    let bool = λ (b : Bool). Ok (fetches.Bool b) in
    first_gives is_spelled_fetch (
    (bytes_eq name (codes "req.hdr_cnt"), field_name arg >>= req_cnt) ∷ (bytes_eq name (codes "res.hdr_cnt"), field_name arg >>= res_cnt)
    ∷ (bytes_eq name (codes "url_param"), Ok (fetches.UrlParam arg)) ∷ (bytes_eq name (codes "str"), Ok (fetches.Str arg))
    ∷ (bytes_eq name (codes "int"), number arg >>= int) ∷ (bytes_eq name (codes "bool"), truth arg >>= bool)
    ∷ (bytes_eq name (codes "var"), variable_fetch (variable_of arg)) ∷ []
    ) (
      gives_then is_field is_spelled_fetch (field_name arg) req_cnt (field_gives arg h) (λ field is. is),
      (
        gives_then is_field is_spelled_fetch (field_name arg) res_cnt (field_gives arg h) (λ field is. is),
        (
          h,
          (
            h,
            (
              gives_then is_within is_spelled_fetch (number arg) int (number_gives arg) (λ n is. is),
              (
                gives_then any is_spelled_fetch (truth arg) bool (gives_any (truth arg)) (λ b is. refl),
                (var_gives (variable_of arg) (variable_has arg), tt),
              ),
            ),
          ),
        ),
      ),
    )

fetch_gives : (name arg : List ℕ) → is_spellable arg ≡ true → Gives is_source (fetch_with name arg >>= λ fetch. Ok (sources.Of fetch))
fetch_gives name arg h = gives_then is_spelled_fetch is_source (fetch_with name arg) (λ fetch. Ok (sources.Of fetch)) (with_gives name arg h) (λ fetch is. is)

-- ---- a field

-- a source of a field, without an occurrence and with one
abbrev alone : (List ℕ → Option ℤ → Source) → List ℕ → Told Source
alone make arg = field_name arg >>= λ field. Ok (make field None)

abbrev placed : (List ℕ → Option ℤ → Source) → (first second : List ℕ) → Told Source
placed make first second = field_name first >>= λ field. occurrence second >>= λ occ. Ok (make field (Some occ))

-- what is made of a field can be said where the field can
abbrev IsOfField : (List ℕ → Option ℤ → Source) → Type 0
IsOfField make = (field : List ℕ) (occ : Option ℤ) → is_source (make field occ) ≡ (is_field field && is_optional is_occurrence occ)

alone_gives : (make : List ℕ → Option ℤ → Source) (arg : List ℕ) → IsOfField make → is_spellable arg ≡ true → Gives is_source (alone make arg)
alone_gives make arg of h = gives_then is_field is_source (field_name arg) (λ field. Ok (make field None)) (field_gives arg h) (λ field is. of field None ∙ and_from (is_field field) true is refl)

placed_gives : (make : List ℕ → Option ℤ → Source) (first second : List ℕ) → IsOfField make → is_spellable first ≡ true → Gives is_source (placed make first second)
placed_gives make first second of h =
    gives_then is_field is_source (field_name first) (λ field. occurrence second >>= λ occ. Ok (make field (Some occ))) (field_gives first h)
    (λ field is. gives_then is_occurrence is_source (occurrence second) (λ occ. Ok (make field (Some occ))) (occurrence_gives second)
    (λ occ are. of field (Some occ) ∙ and_from (is_field field) (is_occurrence occ) is are))

-- what a source comes to by the name of its fetch
one_by : (name arg : List ℕ) (a b c d e : Bool) → bytes_eq name (codes "hdr") ≡ a → bytes_eq name (codes "req.hdr") ≡ b → bytes_eq name (codes "res.hdr") ≡ c → bytes_eq name (codes "req.fhdr") ≡ d → bytes_eq name (codes "res.fhdr") ≡ e
    → is_spellable arg ≡ true → Gives is_source (source_with (field_fetch name) name arg)
unfolding field_fetch is_spelled_fetch
one_by name arg true b c d e ha hb hc hd he h =
    let make = λ (field : List ℕ) (occ : Option ℤ). sources.Hdr field occ in
    let same : source_with (field_fetch name) name arg ≡ alone make arg = rw ha refl in
    subst (Gives is_source) (sym same) (alone_gives make arg (λ field occ. refl) h)
one_by name arg false true c d e ha hb hc hd he h =
    let make = λ (field : List ℕ) (occ : Option ℤ). sources.Of (fetches.ReqHdr field occ) in
    let same : source_with (field_fetch name) name arg ≡ alone make arg = rw ha (rw hb refl) in
    subst (Gives is_source) (sym same) (alone_gives make arg (λ field occ. refl) h)
one_by name arg false false true d e ha hb hc hd he h =
    let make = λ (field : List ℕ) (occ : Option ℤ). sources.Of (fetches.ResHdr field occ) in
    let same : source_with (field_fetch name) name arg ≡ alone make arg = rw ha (rw hb (rw hc refl)) in
    subst (Gives is_source) (sym same) (alone_gives make arg (λ field occ. refl) h)
one_by name arg false false false true e ha hb hc hd he h =
    let make = λ (field : List ℕ) (occ : Option ℤ). sources.Of (fetches.ReqFhdr field occ) in
    let same : source_with (field_fetch name) name arg ≡ alone make arg = rw ha (rw hb (rw hc (rw hd refl))) in
    subst (Gives is_source) (sym same) (alone_gives make arg (λ field occ. refl) h)
one_by name arg false false false false true ha hb hc hd he h =
    let make = λ (field : List ℕ) (occ : Option ℤ). sources.Of (fetches.ResFhdr field occ) in
    let same : source_with (field_fetch name) name arg ≡ alone make arg = rw ha (rw hb (rw hc (rw hd (rw he refl)))) in
    subst (Gives is_source) (sym same) (alone_gives make arg (λ field occ. refl) h)
one_by name arg false false false false false ha hb hc hd he h =
    let same : source_with (field_fetch name) name arg ≡ (fetch_with name arg >>= λ fetch. Ok (sources.Of fetch)) = rw ha (rw hb (rw hc (rw hd (rw he refl)))) in
    subst (Gives is_source) (sym same) (fetch_gives name arg h)

two_by : (name first second : List ℕ) (a b c d e : Bool) → bytes_eq name (codes "hdr") ≡ a → bytes_eq name (codes "req.hdr") ≡ b → bytes_eq name (codes "res.hdr") ≡ c → bytes_eq name (codes "req.fhdr") ≡ d → bytes_eq name (codes "res.fhdr") ≡ e
    → is_spellable first ≡ true → Gives is_source (source_at_occurrence (field_fetch name) first second)
unfolding field_fetch is_spelled_fetch
two_by name first second true b c d e ha hb hc hd he h =
    let make = λ (field : List ℕ) (occ : Option ℤ). sources.Hdr field occ in
    let same : source_at_occurrence (field_fetch name) first second ≡ placed make first second = rw ha refl in
    subst (Gives is_source) (sym same) (placed_gives make first second (λ field occ. refl) h)
two_by name first second false true c d e ha hb hc hd he h =
    let make = λ (field : List ℕ) (occ : Option ℤ). sources.Of (fetches.ReqHdr field occ) in
    let same : source_at_occurrence (field_fetch name) first second ≡ placed make first second = rw ha (rw hb refl) in
    subst (Gives is_source) (sym same) (placed_gives make first second (λ field occ. refl) h)
two_by name first second false false true d e ha hb hc hd he h =
    let make = λ (field : List ℕ) (occ : Option ℤ). sources.Of (fetches.ResHdr field occ) in
    let same : source_at_occurrence (field_fetch name) first second ≡ placed make first second = rw ha (rw hb (rw hc refl)) in
    subst (Gives is_source) (sym same) (placed_gives make first second (λ field occ. refl) h)
two_by name first second false false false true e ha hb hc hd he h =
    let make = λ (field : List ℕ) (occ : Option ℤ). sources.Of (fetches.ReqFhdr field occ) in
    let same : source_at_occurrence (field_fetch name) first second ≡ placed make first second = rw ha (rw hb (rw hc (rw hd refl))) in
    subst (Gives is_source) (sym same) (placed_gives make first second (λ field occ. refl) h)
two_by name first second false false false false true ha hb hc hd he h =
    let make = λ (field : List ℕ) (occ : Option ℤ). sources.Of (fetches.ResFhdr field occ) in
    let same : source_at_occurrence (field_fetch name) first second ≡ placed make first second = rw ha (rw hb (rw hc (rw hd (rw he refl)))) in
    subst (Gives is_source) (sym same) (placed_gives make first second (λ field occ. refl) h)
two_by name first second false false false false false ha hb hc hd he h =
    let same : source_at_occurrence (field_fetch name) first second ≡ Err Expr = rw ha (rw hb (rw hc (rw hd (rw he refl)))) in
    subst (Gives is_source) (sym same) tt

-- ---- any fetch

pub source_gives : (name : List ℕ) (args : List (List ℕ)) → list_all is_spellable args ≡ true → Gives is_source (source_of name args)
unfolding source_of
source_gives name [] h = bare_gives name (peer_variable name) (peer_has name)
source_gives name (arg ∷ []) h = one_by name arg (bytes_eq name (codes "hdr")) (bytes_eq name (codes "req.hdr")) (bytes_eq name (codes "res.hdr")) (bytes_eq name (codes "req.fhdr")) (bytes_eq name (codes "res.fhdr")) refl refl refl refl refl
    (and_parts (is_spellable arg) true h).0
source_gives name (first ∷ second ∷ []) h = two_by name first second (bytes_eq name (codes "hdr")) (bytes_eq name (codes "req.hdr")) (bytes_eq name (codes "res.hdr")) (bytes_eq name (codes "req.fhdr")) (bytes_eq name (codes "res.fhdr")) refl refl refl refl refl
    (and_parts (is_spellable first) (list_all is_spellable (second ∷ [])) h).0
source_gives name (first ∷ second ∷ third ∷ others) h = tt

-- a fetch that rules of a direction can say
abbrev pub fetch_said : Side → Fetch → Bool
fetch_said side fetch = is_spelled_fetch fetch && is_on side fetch

on_has : (side : Side) (fetch : Fetch) → is_spelled_fetch fetch ≡ true → Has (fetch_said side) (cond (is_on side fetch) (Some fetch) None)
on_has side fetch h = has_if (fetch_said side) (is_on side fetch) fetch (λ on. and_from (is_spelled_fetch fetch) (is_on side fetch) h on)

pub side_has : (side : Side) (source : Source) → is_source source ≡ true → Has (fetch_said side) (on_side side source)
unfolding is_spelled_fetch
side_has Request (sources.Hdr name occ) h = and_from (is_field name && is_optional is_occurrence occ) true h refl
side_has Response (sources.Hdr name occ) h = and_from (is_field name && is_optional is_occurrence occ) true h refl
side_has Request (sources.Of fetch) h = on_has Request fetch h
side_has Response (sources.Of fetch) h = on_has Response fetch h

-- ---- as laws

pub fetches_spelled : (side : Side) (name : List ℕ) (args : List (List ℕ)) (source : Source) (fetch : Fetch) → list_all is_spellable args ≡ true → source_of name args ≡ Ok source → on_side side source ≡ Some fetch → fetch_said side fetch ≡ true
fetches_spelled side name args source fetch h is on =
    has_so (fetch_said side) (on_side side source) fetch (side_has side source (gives_so is_source (source_of name args) source (source_gives name args h) is)) on

pub counts_spelled : (text : List ℕ) (n : ℤ) → count text ≡ Ok n → is_count n ≡ true
counts_spelled text n is = gives_so is_count (count text) n (count_gives text) is

pub occurrences_spelled : (text : List ℕ) (n : ℤ) → occurrence text ≡ Ok n → is_occurrence n ≡ true
occurrences_spelled text n is = gives_so is_occurrence (occurrence text) n (occurrence_gives text) is

pub fields_spelled : (text name : List ℕ) → is_spellable text ≡ true → field_name text ≡ Ok name → is_field name ≡ true
fields_spelled text name h is = gives_so is_field (field_name text) name (field_gives text h) is

pub variables_spelled : (text : List ℕ) (scope : Scope) (name : List ℕ) → variable_of text ≡ Some (scope, name) → is_variable scope name ≡ true
variables_spelled text scope name is = has_so variable_said (variable_of text) (scope, name) (variable_has text) is
