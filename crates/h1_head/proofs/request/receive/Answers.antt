use Rattle.std.proofs.Common.{◌≡◌, ℕ, ◌-◌, ◌<◌, sym, ◌∙◌, ap, subst, rules, arith}
use Rattle.std.specs.Prelude.{None}
use Rattle.htx_model.specs.Blocks.{load}
use Rattle.http_model.specs.Head.{head_blocks}
use Rattle.h1_head.specs.Rows.{Parts, kept_head, refusal_of, request_line}
use Rattle.h1_head.specs.Spans.{span_parts}
use Rattle.h1_head.proofs.Judging.{decided_row, decided_heavy, row_is, kept_is, good_names, weight_of, framing_is}
use Rattle.h1_head.proofs.Soundness.{names_passed}
use Rattle.h1_head.proofs.Surveyed.{tells}
use Rattle.h1_head.proofs.request.receive.Goals as goal
use Rattle.h1_head.proofs.request.receive.Goals.{then-is_err-via-then-is_err, then-is_err-via-else-is_err+then-load-limits}

pub returns-in-Some-clause-refused : goal.returns-in-Some-clause-refused
returns-in-Some-clause-refused c =
    let p : Parts = span_parts c.args.text.now c.args.head.now c.args.fields.now in
    decided_row c.args.limits (refusal_of p) _ (request_line p) p.fields c.in-Some.why
    (sym (row_is p c.survey_fields-survey.result c.of.result.now c.fits_target-fits.result c.survey_fields-survey.ensures c.of.ensures c.fits_target-fits.ensures) ∙ sym c.refusal.ensures ∙ c.in-Some.is)

pub push_head-pushed-requires-clause-named : goal.push_head-pushed-requires-clause-named
push_head-pushed-requires-clause-named c =
    let p : Parts = span_parts c.args.text.now c.args.head.now c.args.fields.now in
    let none : refusal_of p ≡ None = sym (row_is p c.survey_fields-survey.result c.of.result.now c.fits_target-fits.result c.survey_fields-survey.ensures c.of.ensures c.fits_target-fits.ensures) ∙ sym c.refusal.ensures ∙ c.in_default.is in
    good_names c.args.text.now c.args.fields.now c.requires.spans.named.named (names_passed p none)

pub push_head-pushed-requires-clause-removes : goal.push_head-pushed-requires-clause-removes
push_head-pushed-requires-clause-removes c =
    let p : Parts = span_parts c.args.text.now c.args.head.now c.args.fields.now in
    let told = tells p.fields in
    ap (λ s. s.removes) c.survey_fields-survey.ensures ∙ told.removes

pub returns-then-is_err-clause-refused : goal.returns-then-is_err-clause-refused
returns-then-is_err-clause-refused c =
    let p : Parts = span_parts c.args.text.now c.args.head.now c.args.fields.now in
    let none : refusal_of p ≡ None = sym (row_is p c.survey_fields-survey.result c.of.result.now c.fits_target-fits.result c.survey_fields-survey.ensures c.of.ensures c.fits_target-fits.ensures) ∙ sym c.refusal.ensures ∙ c.in_default.is in
    elim c.then-is_err.branch [
      | then-is_err-via-then-is_err w ↦
          let past : c.args.to.now.size < weight_of (request_line p) p.fields = search rules in
          let size : c.args.to.now.size ≡ c.args.limits.bufsize = c.requires.size in
          decided_heavy c.args.limits (refusal_of p) _ (request_line p) p.fields none (omega arith)
      | then-is_err-via-else-is_err+then-load-limits w ↦
          let blocks : c.push_head-pushed.new.to.blocks ≡ head_blocks (kept_head (request_line p) p.fields) = search rules in
          let heavy : c.args.limits.bufsize - c.args.limits.maxrewrite < w.load.result = w.if-load-limits.true in
          let P : ℕ → Type 0 = λ n. c.args.limits.bufsize - c.args.limits.maxrewrite < n in
          decided_heavy c.args.limits (refusal_of p) _ (request_line p) p.fields none (subst P (w.load.ensures ∙ ap load blocks) heavy)
    ]

pub returns-clause-kept : goal.returns-clause-kept
returns-clause-kept c =
    let p : Parts = span_parts c.args.text.now c.args.head.now c.args.fields.now in
    let none : refusal_of p ≡ None = sym (row_is p c.survey_fields-survey.result c.of.result.now c.fits_target-fits.result c.survey_fields-survey.ensures c.of.ensures c.fits_target-fits.ensures) ∙ sym c.refusal.ensures ∙ c.in_default.is in
    let blocks : c.push_head-pushed.new.to.blocks ≡ head_blocks (kept_head (request_line p) p.fields) = search rules in
    kept_is c.args.limits (refusal_of p) _ (request_line p) p.fields c.survey_fields-survey.result c.push_head-pushed.new.to.blocks c.framing.result c.declared.result c.survey_fields-survey.result.close
    c.survey_fields-survey.ensures none blocks (search rules) (c.framing.ensures ∙ framing_is _ p.fields c.survey_fields-survey.result c.survey_fields-survey.ensures) c.declared.ensures (search rules)
