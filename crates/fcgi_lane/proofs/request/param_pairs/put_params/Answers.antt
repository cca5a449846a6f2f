use Rattle.std.proofs.Common.{◌≡◌, ℕ, ◌+◌, List, ◌∷◌, Some, drop, sym, ap, ◌∙◌}
use Rattle.std.specs.Prelude.{slice_get}
use Rattle.std.proofs.lemmas.List.{drop_more}
use Rattle.std.proofs.lemmas.List.Sums.{fold-append}
use Rattle.std.proofs.lemmas.Option.{slice_get_within, get_or_from_slice_get}
use Rattle.http_model.specs.Head.{Field}
use Rattle.fcgi_model.specs.Application.{param_field}
use Rattle.fcgi_model.specs.Head.{first_value}
use Rattle.fcgi_model.specs.Pairs.{Pair, param_pair, param_pairs}
use Rattle.fcgi_model.specs.Records.{Packing, put, put_all}
use Rattle.fcgi_lane.specs.Request.Texts.{shown_fields}
use Rattle.fcgi_lane.proofs.request.param_pairs.put_params.Goals as goal

abbrev one : (name : List ℕ) → List Field → List Pair
one name fields = param_pair name (first_value (param_field name) fields)

-- the pairs of the names from this one on
next : (names : List (List ℕ)) (at : ℕ) (name : List ℕ) (fields : List Field) (old new : Packing) → slice_get names at ≡ Some name → new ≡ put_all old (one name fields)
    → put_all new (param_pairs (drop (at + 1) names) fields) ≡ put_all old (param_pairs (drop at names) fields)
next names at name fields old new found is =
    let rest : List (List ℕ) = drop (at + 1) names in
    let split : drop at names ≡ name ∷ rest =
    drop_more names at name (slice_get_within names at name found) ∙ ap (λ (n : List ℕ). n ∷ rest) (get_or_from_slice_get names at name name found) in
    ap (λ (w : Packing). put_all w (param_pairs rest fields)) is
    ∙ sym (fold-append put old (one name fields) (param_pairs rest fields))
    ∙ ap (λ (ns : List (List ℕ)). put_all old (param_pairs ns fields)) (sym split)

-- src/request/param_pairs.rt:52:5
pub loop-at-preserved : goal.loop-at-preserved
loop-at-preserved c =
    let fields : List Field = shown_fields c.args.fields.now in
    next c.args.names.now c.loop-at.at c.get.result.now fields c.loop-at.writer c.put_param.new.writer c.get.ensures
    (c.in_ok-put_param.ensures ∙ ap (λ (n : List ℕ). put_all c.loop-at.writer (one n fields)) c.as_slice.ensures)
    ∙ c.loop-at.invariant
