use Rattle.std.proofs.Common.{rules, ◌≡◌, ◌<◌, ◌+◌, ◌-◌, ℕ, List, ◌∷◌, [], ◌++◌, length, Some, None, sym, ap, ◌∙◌, arith, option_map}
use Rattle.std.proofs.lemmas.List.{map_push}
use Rattle.http_model.specs.Head.{Field}
use Rattle.fcgi_model.specs.Head.{line_at, field_of, fields_within}
use Rattle.fcgi_lane.specs.Request.Texts.{shown_field, shown_fields, shown_pair}
use Rattle.fcgi_lane.proofs.RequestLemmas.Reading.{prepended, ends_without, ends_whole, ends_bad, goes_on}
use Rattle.fcgi_lane.proofs.request.head_reading.fields_of.Goals as goal

pub returns-in_default : goal.returns-in_default
returns-in_default c =
    let text : List ℕ = c.args.text.now in
    let lt : c.loop-i.i < length text = omega arith in
    let none : line_at c.loop-i.left.now ≡ None = sym c.line_at.ensures ∙ ap (option_map shown_pair) c.in_default.is in
    ends_without (shown_fields c.loop-i.fields.items) (length text) c.loop-i.i c.loop-i.left.now (fields_within (length text) text) lt c.loop-i.invariant none

pub returns-then-is_empty : goal.returns-then-is_empty
returns-then-is_empty c =
    let text : List ℕ = c.args.text.now in
    let lt : c.loop-i.i < length text = omega arith in
    let some : line_at c.loop-i.left.now ≡ Some (c.in-Some.line.now, c.in-Some.rest.now) = search rules in
    ends_whole (shown_fields c.loop-i.fields.items) (length text) c.loop-i.i c.loop-i.left.now c.in-Some.line.now c.in-Some.rest.now (fields_within (length text) text) lt c.loop-i.invariant some
    (sym c.is_empty.ensures ∙ c.if-is_empty.true)

pub returns-in_default-field_of : goal.returns-in_default-field_of
returns-in_default-field_of c =
    let text : List ℕ = c.args.text.now in
    let lt : c.loop-i.i < length text = omega arith in
    let some : line_at c.loop-i.left.now ≡ Some (c.in-Some.line.now, c.in-Some.rest.now) = search rules in
    let none : field_of c.in-Some.line.now ≡ None = sym c.field_of.ensures ∙ ap (option_map shown_field) c.in_default-field_of.is in
    ends_bad (shown_fields c.loop-i.fields.items) (length text) c.loop-i.i c.loop-i.left.now c.in-Some.line.now c.in-Some.rest.now (fields_within (length text) text) lt c.loop-i.invariant some
    (sym c.is_empty.ensures ∙ c.if-is_empty.false) none

pub loop-i-preserved : goal.loop-i-preserved
loop-i-preserved c =
    let text : List ℕ = c.args.text.now in
    let lt : c.loop-i.i < length text = omega arith in
    let done : List Field = shown_fields c.loop-i.fields.items in
    let field : Field = shown_field c.in-Some-field_of.field in
    let some : line_at c.loop-i.left.now ≡ Some (c.in-Some.line.now, c.in-Some.rest.now) = search rules in
    let found : field_of c.in-Some.line.now ≡ Some field = search rules in
    let grown : shown_fields c.push.new.self.items ≡ done ++ field ∷ [] = ap shown_fields c.in_ok-push.ensures.items ∙ map_push shown_field c.loop-i.fields.items c.in-Some-field_of.field in
    ap (λ (t : List Field). prepended t (fields_within (length text - (c.loop-i.i + 1)) c.in-Some.rest.now)) grown
    ∙ goes_on done (length text) c.loop-i.i c.loop-i.left.now c.in-Some.line.now c.in-Some.rest.now field (fields_within (length text) text) lt c.loop-i.invariant some
    (sym c.is_empty.ensures ∙ c.if-is_empty.false) found
