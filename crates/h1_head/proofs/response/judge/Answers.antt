use Rattle.std.proofs.Common.{◌≡◌, ◌≤◌, ◌<◌, ◌⊎◌, length, drop, sym, ◌∙◌, ap, rules, inl, inr, arith, false}
use Rattle.std.specs.Prelude.{count_by}
use Rattle.h1_head.specs.Numbers.{most_fields, most_lines}
use Rattle.h1_head.specs.declared.answer.HeadWhy.TheVariants.{Long, Grammar}
use Rattle.h1_head.specs.declared.answer.Side.TheVariants as side
use Rattle.h1_head.specs.Rows.{response_code, response_decision}
use Rattle.h1_head.specs.Sides.{kind_of}
use Rattle.h1_head.specs.Decides.{RefusesFor, WhereLong, IsTooLong, is_line_feed}
use Rattle.httparse.specs.Grammar.{HasNoResponse, status_code}
use Rattle.httparse.specs.Spans.{ResponseOverflows, IsResponseOf, IsResponseWithin}
use Rattle.h1_head.proofs.EachSide.{each_is_lawful}
use Rattle.h1_head.proofs.Places.{of_complete}
use Rattle.h1_head.proofs.Parsed.{keeps_head, refused_head, refuses_for, row_not_long}
use Rattle.h1_head.proofs.Spanned.{response_begins_at, response_parts_at, response_spans_good}
use Rattle.h1_head.proofs.Responses.{low_status}
use Rattle.h1_head.proofs.Soundness.{each_received}
use Rattle.h1_head.proofs.Streams.{hopeless_many, hopeless_long, hopeless_head, too_long}
use Rattle.h1_head.proofs.Told.{on_refusal}
use Rattle.h1_head.proofs.response.judge.Goals as goal

pub receive-requires-clause-spans : goal.receive-requires-clause-spans
receive-requires-clause-spans c =
    let complete = of_complete c.args.parsed c.in-Ok-Complete.field-0 c.in-Ok-Complete.head (IsResponseOf c.args.text.now c.args.places.now) c.in-Ok-Complete.is (rw c.in-Ok-Complete.is at c.in-Ok-Complete.field-0-is) c.requires.complete in
    let within = of_complete c.args.parsed c.in-Ok-Complete.field-0 c.in-Ok-Complete.head (IsResponseWithin c.args.text.now c.args.places.now) c.in-Ok-Complete.is (rw c.in-Ok-Complete.is at c.in-Ok-Complete.field-0-is) c.requires.within in
    let room : length c.args.places.now ≤ most_fields = c.requires.places in
    response_spans_good c.args.text.now c.args.places.now c.in-Ok-Complete.head room within complete

pub returns-in-Ok-clause-head : goal.returns-in-Ok-clause-head
returns-in-Ok-clause-head c =
    let complete = of_complete c.args.parsed c.in-Ok-Complete.field-0 c.in-Ok-Complete.head (IsResponseOf c.args.text.now c.args.places.now) c.in-Ok-Complete.is (rw c.in-Ok-Complete.is at c.in-Ok-Complete.field-0-is) c.requires.complete in
    let within = of_complete c.args.parsed c.in-Ok-Complete.field-0 c.in-Ok-Complete.head (IsResponseWithin c.args.text.now c.args.places.now) c.in-Ok-Complete.is (rw c.in-Ok-Complete.is at c.in-Ok-Complete.field-0-is) c.requires.within in
    let room : length c.args.places.now ≤ most_fields = c.requires.places in
    let least : 100 ≤ c.in-Ok-Complete.head.code = search rules in
    let begins = response_begins_at c.args.terms.head_asked c.args.terms.limits c.args.text.now c.args.places.now c.in-Ok-Complete.head complete.0 c.requires.alone c.requires.text room within complete.1 least in
    let kept = c.in-Ok.ensures.kept in
    keeps_head (kind_of (side.Response c.args.terms.head_asked)) (each_is_lawful (side.Response c.args.terms.head_asked)) c.args.terms.limits c.args.whole c.args.text.now complete.0 c.in-Ok-Complete.head.len c.receive.new.to.blocks
    c.in-Ok.kept.framing c.in-Ok.kept.declared c.in-Ok.kept.close c.requires.alone within.section.len_fits begins
    (kept.0, kept.1, ap (response_decision c.args.terms.head_asked c.args.terms.limits) (sym (response_parts_at c.args.text.now c.args.places.now c.in-Ok-Complete.head complete.0 complete.1)) ∙ kept.2)
    (λ got e. each_received (side.Response c.args.terms.head_asked) c.args.terms.limits c.args.text.now complete.0 (drop c.in-Ok-Complete.head.len c.args.text.now) got begins e)

pub returns-in-Err-receive-clause-why : goal.returns-in-Err-receive-clause-why
returns-in-Err-receive-clause-why c =
    let complete = of_complete c.args.parsed c.in-Ok-Complete.field-0 c.in-Ok-Complete.head (IsResponseOf c.args.text.now c.args.places.now) c.in-Ok-Complete.is (rw c.in-Ok-Complete.is at c.in-Ok-Complete.field-0-is) c.requires.complete in
    let within = of_complete c.args.parsed c.in-Ok-Complete.field-0 c.in-Ok-Complete.head (IsResponseWithin c.args.text.now c.args.places.now) c.in-Ok-Complete.is (rw c.in-Ok-Complete.is at c.in-Ok-Complete.field-0-is) c.requires.within in
    let room : length c.args.places.now ≤ most_fields = c.requires.places in
    let least : 100 ≤ c.in-Ok-Complete.head.code = search rules in
    let begins = response_begins_at c.args.terms.head_asked c.args.terms.limits c.args.text.now c.args.places.now c.in-Ok-Complete.head complete.0 c.requires.alone c.requires.text room within complete.1 least in
    on_refusal c.refuse-in-Err-receive.result (response_code c.in-Err-receive.why) c.in-Err-receive.why (λ _ why. RefusesFor (kind_of (side.Response c.args.terms.head_asked)) c.args.terms.limits c.args.whole c.args.text.now why) c.refuse-in-Err-receive.ensures
    (refuses_for (kind_of (side.Response c.args.terms.head_asked)) (each_is_lawful (side.Response c.args.terms.head_asked)) c.args.terms.limits c.args.whole c.args.text.now c.in-Err-receive.why
    (refused_head (kind_of (side.Response c.args.terms.head_asked)) c.args.terms.limits c.args.text.now complete.0 c.in-Ok-Complete.head.len c.in-Err-receive.why c.requires.alone begins
    (ap (response_decision c.args.terms.head_asked c.args.terms.limits) (sym (response_parts_at c.args.text.now c.args.places.now c.in-Ok-Complete.head complete.0 complete.1)) ∙ c.in-Err-receive.ensures.refused)))

pub returns-in-Err-receive-clause-long : goal.returns-in-Err-receive-clause-long
returns-in-Err-receive-clause-long c =
    let complete = of_complete c.args.parsed c.in-Ok-Complete.field-0 c.in-Ok-Complete.head (IsResponseOf c.args.text.now c.args.places.now) c.in-Ok-Complete.is (rw c.in-Ok-Complete.is at c.in-Ok-Complete.field-0-is) c.requires.complete in
    let within = of_complete c.args.parsed c.in-Ok-Complete.field-0 c.in-Ok-Complete.head (IsResponseWithin c.args.text.now c.args.places.now) c.in-Ok-Complete.is (rw c.in-Ok-Complete.is at c.in-Ok-Complete.field-0-is) c.requires.within in
    let room : length c.args.places.now ≤ most_fields = c.requires.places in
    let least : 100 ≤ c.in-Ok-Complete.head.code = search rules in
    let begins = response_begins_at c.args.terms.head_asked c.args.terms.limits c.args.text.now c.args.places.now c.in-Ok-Complete.head complete.0 c.requires.alone c.requires.text room within complete.1 least in
    on_refusal c.refuse-in-Err-receive.result (response_code c.in-Err-receive.why) c.in-Err-receive.why (λ _ why. WhereLong why (IsTooLong (kind_of (side.Response c.args.terms.head_asked)) c.args.terms.limits c.args.whole c.args.text.now)) c.refuse-in-Err-receive.ensures
    (row_not_long (kind_of (side.Response c.args.terms.head_asked)) (each_is_lawful (side.Response c.args.terms.head_asked)) c.args.terms.limits c.args.text.now (IsTooLong (kind_of (side.Response c.args.terms.head_asked)) c.args.terms.limits c.args.whole c.args.text.now) c.in-Err-receive.why
    (refused_head (kind_of (side.Response c.args.terms.head_asked)) c.args.terms.limits c.args.text.now complete.0 c.in-Ok-Complete.head.len c.in-Err-receive.why c.requires.alone begins
    (ap (response_decision c.args.terms.head_asked c.args.terms.limits) (sym (response_parts_at c.args.text.now c.args.places.now c.in-Ok-Complete.head complete.0 complete.1)) ∙ c.in-Err-receive.ensures.refused)))

pub returns-in-Err-TooManyHeaders-clause-long : goal.returns-in-Err-TooManyHeaders-clause-long
returns-in-Err-TooManyHeaders-clause-long c =
    let over : ResponseOverflows most_fields c.args.text.now = rw c.in-Err-TooManyHeaders.is at c.requires.overflows in
    on_refusal c.refuse-in-Err-TooManyHeaders.result 502 Long (λ _ why. WhereLong why (IsTooLong (kind_of (side.Response c.args.terms.head_asked)) c.args.terms.limits c.args.whole c.args.text.now)) c.refuse-in-Err-TooManyHeaders.ensures
    (too_long (kind_of (side.Response c.args.terms.head_asked)) c.args.terms.limits c.args.whole c.args.text.now c.requires.alone (inl (λ more h rest reads. over more h rest reads.0)))

pub returns-in-Long-clause-long : goal.returns-in-Long-clause-long
returns-in-Long-clause-long c =
    let full : (c.args.whole ≡ false) × ((c.args.terms.limits.bufsize ≤ length c.args.text.now) ⊎ (most_lines ≤ count_by is_line_feed c.args.text.now)) = rw c.in-Long.is at c.wait_for.ensures in
    on_refusal c.refuse-in-Long.result 502 Long (λ _ why. WhereLong why (IsTooLong (kind_of (side.Response c.args.terms.head_asked)) c.args.terms.limits c.args.whole c.args.text.now)) c.refuse-in-Long.ensures
    (too_long (kind_of (side.Response c.args.terms.head_asked)) c.args.terms.limits c.args.whole c.args.text.now c.requires.alone (inr full))

pub returns-in-Err-TooManyHeaders-clause-why : goal.returns-in-Err-TooManyHeaders-clause-why
returns-in-Err-TooManyHeaders-clause-why c =
    let over : ResponseOverflows most_fields c.args.text.now = rw c.in-Err-TooManyHeaders.is at c.requires.overflows in
    on_refusal c.refuse-in-Err-TooManyHeaders.result 502 Long (λ _ why. RefusesFor (kind_of (side.Response c.args.terms.head_asked)) c.args.terms.limits c.args.whole c.args.text.now why) c.refuse-in-Err-TooManyHeaders.ensures
    (hopeless_many (kind_of (side.Response c.args.terms.head_asked)) (each_is_lawful (side.Response c.args.terms.head_asked)) c.args.terms.limits c.args.whole c.args.text.now c.requires.alone c.requires.some c.requires.begun (λ more h rest reads. over more h rest reads.0))

pub returns-in-Err-clause-why : goal.returns-in-Err-clause-why
returns-in-Err-clause-why c =
    let over : ResponseOverflows most_fields c.args.text.now = rw c.in-Err.is at c.requires.overflows in
    on_refusal c.refuse-in-Err.result 502 Grammar (λ _ why. RefusesFor (kind_of (side.Response c.args.terms.head_asked)) c.args.terms.limits c.args.whole c.args.text.now why) c.refuse-in-Err.ensures
    (hopeless_many (kind_of (side.Response c.args.terms.head_asked)) (each_is_lawful (side.Response c.args.terms.head_asked)) c.args.terms.limits c.args.whole c.args.text.now c.requires.alone c.requires.some c.requires.begun (λ more h rest reads. over more h rest reads.0))

pub returns-in-Long-clause-why : goal.returns-in-Long-clause-why
returns-in-Long-clause-why c =
    let none : HasNoResponse c.args.text.now = search rules in
    let full : (c.args.whole ≡ false) × ((c.args.terms.limits.bufsize ≤ length c.args.text.now) ⊎ (most_lines ≤ count_by is_line_feed c.args.text.now)) = rw c.in-Long.is at c.wait_for.ensures in
    on_refusal c.refuse-in-Long.result 502 Long (λ _ why. RefusesFor (kind_of (side.Response c.args.terms.head_asked)) c.args.terms.limits c.args.whole c.args.text.now why) c.refuse-in-Long.ensures
    (hopeless_long (kind_of (side.Response c.args.terms.head_asked)) (each_is_lawful (side.Response c.args.terms.head_asked)) c.args.terms.limits c.args.whole c.args.text.now c.requires.alone c.requires.some c.requires.begun none full.1)

pub returns-then-head-lt100-clause-why : goal.returns-then-head-lt100-clause-why
returns-then-head-lt100-clause-why c =
    let complete = of_complete c.args.parsed c.in-Ok-Complete.field-0 c.in-Ok-Complete.head (IsResponseOf c.args.text.now c.args.places.now) c.in-Ok-Complete.is (rw c.in-Ok-Complete.is at c.in-Ok-Complete.field-0-is) c.requires.complete in
    let code : c.in-Ok-Complete.head.code ≡ status_code complete.0 = complete.1.code in
    let low : c.in-Ok-Complete.head.code < 100 = c.if-head-lt100.true in
    on_refusal c.refuse.result 502 Grammar (λ _ why. RefusesFor (kind_of (side.Response c.args.terms.head_asked)) c.args.terms.limits c.args.whole c.args.text.now why) c.refuse.ensures
    (hopeless_head (kind_of (side.Response c.args.terms.head_asked)) (each_is_lawful (side.Response c.args.terms.head_asked)) c.args.terms.limits c.args.whole c.args.text.now c.requires.alone c.requires.some c.requires.begun
    (λ more. low_status c.args.terms.head_asked c.args.terms.limits c.args.text.now more complete.0 (drop c.in-Ok-Complete.head.len c.args.text.now) complete.1.reads (omega arith)))
