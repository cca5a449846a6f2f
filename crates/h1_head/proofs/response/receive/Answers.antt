use Rattle.std.proofs.Common.{◌≡◌, ℕ, ◌-◌, ◌<◌, sym, ◌∙◌, ap, subst, rules, arith}
use Rattle.std.specs.Prelude.{None, cond, ◌||◌}
use Rattle.htx_model.specs.Blocks.{load}
use Rattle.http_model.specs.declared.Framing.TheVariants as framing
use Rattle.http_model.specs.Head.{head_blocks}
use Rattle.h1_head.specs.Rows.{ResponseParts, kept_head, response_refusal_of, status_line, has_no_content}
use Rattle.h1_head.specs.Spans.{response_span_parts}
use Rattle.h1_head.proofs.Judging.{decided_row, decided_heavy, response_row_is, kept_is, good_names, weight_of, framing_is}
use Rattle.h1_head.proofs.Soundness.{response_names_passed}
use Rattle.h1_head.proofs.Surveyed.{tells}
use Rattle.h1_head.proofs.response.receive.Goals as goal
use Rattle.h1_head.proofs.response.receive.Goals.{then-is_err-via-then-is_err, then-is_err-via-else-is_err+then-load-limits}

pub returns-in-Some-clause-refused : goal.returns-in-Some-clause-refused
returns-in-Some-clause-refused c =
    let p : ResponseParts = response_span_parts c.args.text.now c.args.head.now c.args.fields.now in
    decided_row c.args.terms.limits (response_refusal_of p) _ (status_line p) p.fields c.in-Some.why
    (sym (response_row_is p c.survey_fields-survey.result c.survey_fields-survey.ensures) ∙ sym c.response_refusal.ensures ∙ c.in-Some.is)

pub push_response_head-pushed-requires-clause-named : goal.push_response_head-pushed-requires-clause-named
push_response_head-pushed-requires-clause-named c =
    let p : ResponseParts = response_span_parts c.args.text.now c.args.head.now c.args.fields.now in
    let none : response_refusal_of p ≡ None = sym (response_row_is p c.survey_fields-survey.result c.survey_fields-survey.ensures) ∙ sym c.response_refusal.ensures ∙ c.in_default.is in
    good_names c.args.text.now c.args.fields.now c.requires.spans.named.named (response_names_passed p none)

pub push_response_head-pushed-requires-clause-removes : goal.push_response_head-pushed-requires-clause-removes
push_response_head-pushed-requires-clause-removes c =
    let p : ResponseParts = response_span_parts c.args.text.now c.args.head.now c.args.fields.now in
    let told = tells p.fields in
    ap (λ s. s.removes) c.survey_fields-survey.ensures ∙ told.removes

pub returns-then-is_err-clause-refused : goal.returns-then-is_err-clause-refused
returns-then-is_err-clause-refused c =
    let p : ResponseParts = response_span_parts c.args.text.now c.args.head.now c.args.fields.now in
    let none : response_refusal_of p ≡ None = sym (response_row_is p c.survey_fields-survey.result c.survey_fields-survey.ensures) ∙ sym c.response_refusal.ensures ∙ c.in_default.is in
    elim c.then-is_err.branch [
      | then-is_err-via-then-is_err w ↦
          let past : c.args.to.now.size < weight_of (status_line p) p.fields = search rules in
          let size : c.args.to.now.size ≡ c.args.terms.limits.bufsize = c.requires.size in
          decided_heavy c.args.terms.limits (response_refusal_of p) _ (status_line p) p.fields none (omega arith)
      | then-is_err-via-else-is_err+then-load-limits w ↦
          let blocks : c.push_response_head-pushed.new.to.blocks ≡ head_blocks (kept_head (status_line p) p.fields) = search rules in
          let heavy : c.args.terms.limits.bufsize - c.args.terms.limits.maxrewrite < w.load.result = w.if-load-limits.true in
          let P : ℕ → Type 0 = λ n. c.args.terms.limits.bufsize - c.args.terms.limits.maxrewrite < n in
          decided_heavy c.args.terms.limits (response_refusal_of p) _ (status_line p) p.fields none (subst P (w.load.ensures ∙ ap load blocks) heavy)
    ]

pub returns-clause-kept : goal.returns-clause-kept
returns-clause-kept c =
    let p : ResponseParts = response_span_parts c.args.text.now c.args.head.now c.args.fields.now in
    let none : response_refusal_of p ≡ None = sym (response_row_is p c.survey_fields-survey.result c.survey_fields-survey.ensures) ∙ sym c.response_refusal.ensures ∙ c.in_default.is in
    let blocks : c.push_response_head-pushed.new.to.blocks ≡ head_blocks (kept_head (status_line p) p.fields) = search rules in
    kept_is c.args.terms.limits (response_refusal_of p) _ (status_line p) p.fields c.survey_fields-survey.result c.push_response_head-pushed.new.to.blocks c.framing_for.result c.declared.result c.survey_fields-survey.result.close
    c.survey_fields-survey.ensures none blocks (search rules) (c.framing_for.ensures ∙ ap (λ f. cond (c.args.terms.head_asked || has_no_content p.status) framing.Absent f) (framing_is framing.ToClose p.fields c.survey_fields-survey.result c.survey_fields-survey.ensures)) c.declared.ensures (search rules)
