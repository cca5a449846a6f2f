-- An expression that is read can be said again.
use Rattle.std.proofs.Common.{◌≡◌, ℕ, Bool, true, List}
use Rattle.std.proofs.lemmas.Bool.{and_parts, and_from}
use Rattle.std.specs.Prelude.{◌&&◌, Option, Some, Ok}
use Rattle.std.specs.List.{list_all}
use Rattle.px_conv.specs.declared.conv.Conv.{Conv}
use Rattle.px_expr.specs.declared.expr.Expr as exprs
use Rattle.cfg_expr.specs.declared.source.Source.{Source}
use Rattle.cfg_expr.specs.declared.source.Written.{Written}
use Rattle.cfg_expr.specs.declared.side.Side.{Side}
use Rattle.cfg_expr.specs.Steps as steps
use Rattle.cfg_expr.specs.Reading.{plain, ◌>>=◌}
use Rattle.cfg_expr.specs.Faults.{TextReading}
use Rattle.cfg_expr.specs.Calls.{Form, form_in}
use Rattle.cfg_expr.specs.Sides.{is_on, on_side, checked}
use Rattle.cfg_expr.specs.Fetches.{expected, source_of, placed_source, with_fetch}
use Rattle.cfg_expr.specs.Exprs.{convs_at, written_at, expr_at, ended, expr_of}
use Rattle.cfg_laws.specs.Spelled.{is_spellable, is_spelled_fetch, is_spelled}
use Rattle.cfg_laws.proofs.ReadLemmas.Steps.{Gives, gives_so, gives_then, gives_behind, any, gives_any, expected_gives}
use Rattle.cfg_laws.proofs.ReadLemmas.Calls.{form_said, form_spelled, arguments_of_form}
use Rattle.cfg_laws.proofs.ReadLemmas.Fetches.{is_source, source_gives, fetch_said, side_has}
use Rattle.cfg_laws.proofs.ReadLemmas.Convs.{are_convs, convs_said, convs_give}

-- ---- before a direction is chosen

-- a source that can be said, whatever is behind it
abbrev pub source_said : Source × List ℕ → Bool
source_said found = is_source found.0

pub placed_gives : (place : Option Side) (form : Form) → list_all is_spellable form.args ≡ true → Gives source_said (placed_source place form)
placed_gives place form h =
    gives_then is_source source_said (source_of form.name form.args) (λ source. steps.◌>>=◌ (checked place source) (λ ok. Ok (source, form.rest))) (source_gives form.name form.args h)
    (λ source is. gives_then any source_said (checked place source) (λ ok. Ok (source, form.rest)) (gives_any (checked place source)) (λ ok free. is))

abbrev written_said : Written × List ℕ → Bool
written_said found = is_source found.0.source && are_convs found.0.convs

-- what is read behind a source, and of a form
abbrev with_convs : Source → List Conv × List ℕ → TextReading (Written × List ℕ)
with_convs source convs = plain (Ok (record { source = source; convs = convs.0 }, convs.1))

abbrev of_source : Source × List ℕ → TextReading (Written × List ℕ)
of_source source = convs_at source.1 >>= with_convs source.0

abbrev of_form : Option Side → Form → TextReading (Written × List ℕ)
of_form place form = plain (placed_source place form) >>= of_source

source_behind : (source : Source × List ℕ) → source_said source ≡ true → Gives written_said (of_source source).gives
source_behind source h = gives_behind convs_said written_said (convs_at source.1).gives (with_convs source.0) (convs_give source.1)
    (λ convs are. and_from (is_source source.0) (are_convs convs.0) h are)

form_behind : (place : Option Side) (form : Form) → form_said form ≡ true → Gives written_said (of_form place form).gives
form_behind place form h = gives_behind source_said written_said (placed_source place form) of_source (placed_gives place form (arguments_of_form form h)) source_behind

written_gives : (place : Option Side) (text : List ℕ) → Gives written_said (written_at place text).gives
unfolding written_at
written_gives place text = gives_behind form_said written_said (expected (form_in text)) (of_form place) (expected_gives form_said (form_in text) (form_spelled text)) (form_behind place)

-- ---- in a direction

with_gives : (side : Side) (written : Written) → (is_source written.source && are_convs written.convs) ≡ true → Gives (is_spelled side) (with_fetch side written)
with_gives side written h =
    let both = and_parts (is_source written.source) (are_convs written.convs) h in
    gives_then (fetch_said side) (is_spelled side) (expected (on_side side written.source)) (λ fetch. Ok (record { fetch = fetch; convs = written.convs }))
    (expected_gives (fetch_said side) (on_side side written.source) (side_has side written.source both.0))
    (λ fetch is. and_from (is_spelled_fetch fetch && is_on side fetch) (are_convs written.convs) is both.1)

-- an expression that can be said, whatever is behind it
abbrev pub expr_said : Side → exprs.Expr × List ℕ → Bool
expr_said side found = is_spelled side found.0

abbrev with_rest : List ℕ → exprs.Expr → TextReading (exprs.Expr × List ℕ)
with_rest rest expr = plain (Ok (expr, rest))

abbrev of_written : Side → Written × List ℕ → TextReading (exprs.Expr × List ℕ)
of_written side written = plain (with_fetch side written.0) >>= with_rest written.1

pub expr_gives : (side : Side) (text : List ℕ) → Gives (expr_said side) (expr_at side text).gives
unfolding expr_at
expr_gives side text = gives_behind written_said (expr_said side) (written_at (Some side) text).gives (of_written side) (written_gives (Some side) text)
    (λ written h. gives_behind (is_spelled side) (expr_said side) (with_fetch side written.0) (with_rest written.1) (with_gives side written.0 h) (λ expr is. is))

-- a whole text
abbrev of_whole : exprs.Expr × List ℕ → TextReading exprs.Expr
of_whole found = plain (ended found.1) >>= λ end. plain (Ok found.0)

pub whole_gives : (side : Side) (text : List ℕ) → Gives (is_spelled side) (expr_of side text).gives
unfolding expr_of
whole_gives side text = gives_behind (expr_said side) (is_spelled side) (expr_at side text).gives of_whole (expr_gives side text)
    (λ found h. gives_behind any (is_spelled side) (ended found.1) (λ end. plain (Ok found.0)) (gives_any (ended found.1)) (λ end free. h))

-- ---- as laws

pub exprs_spelled : (side : Side) (text : List ℕ) (expr : exprs.Expr) (rest : List ℕ) → (expr_at side text).gives ≡ Ok (expr, rest) → is_spelled side expr ≡ true
exprs_spelled side text expr rest is = gives_so (expr_said side) (expr_at side text).gives (expr, rest) (expr_gives side text) is

pub whole_exprs_spelled : (side : Side) (text : List ℕ) (expr : exprs.Expr) → (expr_of side text).gives ≡ Ok expr → is_spelled side expr ≡ true
whole_exprs_spelled side text expr is = gives_so (is_spelled side) (expr_of side text).gives expr (whole_gives side text) is
