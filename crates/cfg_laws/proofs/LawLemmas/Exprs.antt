-- Expressions as they are spelled, and read.
use Rattle.std.proofs.Common.{◌≡◌, ℕ, true, cond, List, [], ◌++◌, length, refl, sym, ap, ◌∙◌, append_assoc}
use Rattle.std.proofs.lemmas.Bool.{leb-true}
use Rattle.std.proofs.lemmas.List.{append-nil}
use Rattle.std.specs.Prelude.{◌&&◌, nat_le, Option, Some, None, Ok, Err}
use Rattle.std.specs.List.{list_all, flat_map}
use Rattle.px_sample.specs.declared.fetch.Fetch.{Fetch}
use Rattle.px_conv.specs.declared.conv.Conv.{Conv}
use Rattle.px_expr.specs.declared.expr.Expr.{Expr}
use Rattle.cfg_expr.specs.declared.fault.TextKind.TheVariants as kinds
use Rattle.cfg_expr.specs.declared.side.Side.{Side}
use Rattle.cfg_expr.specs.declared.side.Side.TheVariants.{Request, Response}
use Rattle.cfg_expr.specs.declared.source.Source.{Source}
use Rattle.cfg_expr.specs.declared.source.Source.TheVariants.{Of}
use Rattle.cfg_expr.specs.declared.source.Written.{Written}
use Rattle.cfg_expr.specs.Steps as steps
use Rattle.cfg_expr.specs.Reading.{plain, ◌>>=◌}
use Rattle.cfg_expr.specs.Faults.{Told, TextReading}
use Rattle.cfg_expr.specs.Calls.{Form, form_in}
use Rattle.cfg_expr.specs.Sides.{is_on, on_side, checked}
use Rattle.cfg_expr.specs.Fetches.{expected, source_of, placed_source, with_fetch}
use Rattle.cfg_expr.specs.Exprs.{convs_at, written_at, expr_at, ended, expr_of, most_convs}
use Rattle.cfg_print.specs.Exprs.{Call, call_text, fetch_call, conv_text, expr_text}
use Rattle.cfg_laws.specs.Spelled.{is_spelled_fetch, is_spelled_conv, is_spelled}
use Rattle.cfg_laws.specs.Laws.Calls.{form}
use Rattle.cfg_laws.specs.Laws.Exprs.{expr_patterns, is_closed}
use Rattle.cfg_laws.proofs.LawLemmas.Words.{both_left, both_right}
use Rattle.cfg_laws.proofs.LawLemmas.Calls.{call_back, ends_any}
use Rattle.cfg_laws.proofs.LawLemmas.Fetches.{fetch_back}
use Rattle.cfg_laws.proofs.LawLemmas.Convs.{found, convs_back, convs_end}

-- ---- a fetch in its direction

pub on_side_is : (side : Side) (fetch : Fetch) → is_on side fetch ≡ true → on_side side (Of fetch) ≡ Some fetch
on_side_is Request fetch h = ap (λ t. cond t (Some fetch) None) h
on_side_is Response fetch h = ap (λ t. cond t (Some fetch) None) h

-- the fetch of a call, with what is behind it
placed : (side : Side) (fetch : Fetch) (call : Call) (rest : List ℕ) → source_of call.name call.arguments ≡ Ok (Of fetch) → is_on side fetch ≡ true
    → placed_source (Some side) (form call rest) ≡ Ok (Of fetch, rest)
placed side fetch call rest is on =
    ap (λ (told : Told Source). steps.◌>>=◌ told (λ source. steps.◌>>=◌ (checked (Some side) source) (λ ok. Ok (source, rest)))) is
    ∙ ap (λ t. steps.◌>>=◌ (cond t (Ok tt) (Err kinds.Expr)) (λ ok. Ok (Of fetch, rest))) on

-- ---- an expression

-- what is read of a form
abbrev of_form : Side → Told Form → TextReading (Written × List ℕ)
of_form side told = do
  form ← plain told
  source ← plain (placed_source (Some side) form)
  convs ← convs_at source.1
  plain (Ok (record { source = source.0; convs = convs.0 }, convs.1))

-- what is read of a fetch
abbrev of_source : Told (Source × List ℕ) → TextReading (Written × List ℕ)
of_source told = do
  source ← plain told
  convs ← convs_at source.1
  plain (Ok (record { source = source.0; convs = convs.0 }, convs.1))

-- what is read of converters
abbrev of_convs : Source → TextReading (List Conv × List ℕ) → TextReading (Written × List ℕ)
of_convs source reading = do
  convs ← reading
  plain (Ok (record { source = source; convs = convs.0 }, convs.1))

-- a fetch and its converters
abbrev of_fetch : Fetch → List Conv → Told Expr
of_fetch fetch convs = Ok (record { fetch = fetch; convs = convs })

written_back : (side : Side) (expr : Expr) (rest : List ℕ) → is_spelled side expr ≡ true → is_closed rest ≡ true
    → written_at (Some side) (expr_text expr ++ rest) ≡ found (expr_patterns expr) (record { source = Of expr.fetch; convs = expr.convs }, rest)
unfolding written_at expr_text
written_back side expr rest h ends =
    let front = both_left (is_spelled_fetch expr.fetch && is_on side expr.fetch) (list_all is_spelled_conv expr.convs && nat_le (length expr.convs) most_convs) h in
    let behind = both_right (is_spelled_fetch expr.fetch && is_on side expr.fetch) (list_all is_spelled_conv expr.convs && nat_le (length expr.convs) most_convs) h in
    let fetch = fetch_back expr.fetch (both_left (is_spelled_fetch expr.fetch) (is_on side expr.fetch) front) in
    let on = both_right (is_spelled_fetch expr.fetch) (is_on side expr.fetch) front in
    let all = both_left (list_all is_spelled_conv expr.convs) (nat_le (length expr.convs) most_convs) behind in
    let few = leb-true (length expr.convs) 16 (both_right (list_all is_spelled_conv expr.convs) (nat_le (length expr.convs) most_convs) behind) in
    let call = fetch_call expr.fetch in
    let more = flat_map conv_text expr.convs ++ rest in
    ap (λ text. of_form side (expected (form_in text))) (append_assoc (call_text call) (flat_map conv_text expr.convs) rest)
    ∙ ap (λ told. of_form side (expected told)) (call_back call more fetch.1 (ends_any call.arguments more (convs_end expr.convs rest ends)))
    ∙ ap of_source (placed side expr.fetch call more fetch.0 on)
    ∙ ap (of_convs (Of expr.fetch)) (convs_back 16 [] expr.convs rest few all ends)
    ∙ ap (λ asks. found asks (record { source = Of expr.fetch; convs = expr.convs }, rest)) (append-nil (expr_patterns expr))

-- an expression is read back
pub expr_back : (side : Side) (expr : Expr) (rest : List ℕ) → is_spelled side expr ≡ true → is_closed rest ≡ true
    → expr_at side (expr_text expr ++ rest) ≡ found (expr_patterns expr) (expr, rest)
unfolding expr_at
expr_back side expr rest h ends =
    let front = both_left (is_spelled_fetch expr.fetch && is_on side expr.fetch) (list_all is_spelled_conv expr.convs && nat_le (length expr.convs) most_convs) h in
    let on = both_right (is_spelled_fetch expr.fetch) (is_on side expr.fetch) front in
    let asks = expr_patterns expr in
    let with_one = λ (fetch : Option Fetch) (w : Written × List ℕ). plain (steps.◌>>=◌ (expected fetch) (λ f. of_fetch f w.0.convs)) >>= λ e. plain (Ok (e, w.1)) in
    let written : Written × List ℕ = (record { source = Of expr.fetch; convs = expr.convs }, rest) in
    ap (λ (r : TextReading (Written × List ℕ)). r >>= λ w. plain (with_fetch side w.0) >>= λ e. plain (Ok (e, w.1))) (written_back side expr rest h ends)
    ∙ ap (λ (fetch : Option Fetch). found asks written >>= with_one fetch) (on_side_is side expr.fetch on)
    ∙ ap (λ l. found l (expr, rest)) (append-nil asks)

-- a whole text that is an expression is read back
pub whole_expr_back : (side : Side) (expr : Expr) → is_spelled side expr ≡ true → expr_of side (expr_text expr) ≡ found (expr_patterns expr) expr
unfolding expr_of
whole_expr_back side expr h =
    let read = λ (r : TextReading (Expr × List ℕ)). r >>= λ next. plain (ended next.1) >>= λ end. plain (Ok next.0) in
    ap (λ text. read (expr_at side text)) (sym (append-nil (expr_text expr)))
    ∙ ap read (expr_back side expr [] h refl)
    ∙ ap (λ l. found l expr) (append-nil (expr_patterns expr))
