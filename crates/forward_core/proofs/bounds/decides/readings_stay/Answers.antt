use Rattle.std.specs.Prelude.{[], Some}
use Rattle.h1_head.specs.declared.answer.Side.TheVariants as sides
use Rattle.h1_head.specs.Kind.{request_heads, response_heads}
use Rattle.forward_core.proofs.BoundsLemmas.Stays.{refusal_on, body_on}
use Rattle.forward_core.proofs.bounds.decides.readings_stay.Goals as goal

pub returns-clause-refused : goal.returns-clause-refused
returns-clause-refused c = λ cfg valid window code.
    refusal_on request_heads cfg.limits window code (c.refusal_stays.ensures sides.Request cfg.limits window)
    (λ more. c.refused_where_full.ensures sides.Request cfg.limits window more code valid.limits.least)

pub returns-clause-request : goal.returns-clause-request
returns-clause-request c = λ cfg used received begins more. c.head_stays.ensures sides.Request cfg.limits used more received [] begins

pub returns-clause-response_refused : goal.returns-clause-response_refused
returns-clause-response_refused c = λ cfg valid head_asked window code.
    refusal_on (response_heads head_asked) cfg.limits window code (c.refusal_stays.ensures (sides.Response head_asked) cfg.limits window)
    (λ more. c.refused_where_full.ensures (sides.Response head_asked) cfg.limits window more code valid.limits.least)

pub returns-clause-response : goal.returns-clause-response
returns-clause-response c = λ cfg head_asked used received begins more. c.head_stays.ensures (sides.Response head_asked) cfg.limits used more received [] begins

pub returns-clause-body : goal.returns-clause-body
returns-clause-body c = λ cfg framing bytes body read more ending. body_on c.joins.ensures cfg.limits framing bytes body read more (Some ending)

pub returns-clause-request_filters : goal.returns-clause-request_filters
returns-clause-request_filters c = λ cfg. c.filters_hold_on.ensures cfg.req_filters

pub returns-clause-response_filters : goal.returns-clause-response_filters
returns-clause-response_filters c = λ cfg. c.filters_hold_on.ensures cfg.res_filters
