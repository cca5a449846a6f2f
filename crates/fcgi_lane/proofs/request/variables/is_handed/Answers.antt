use Rattle.std.proofs.Common.{Bool, not, ◌||◌, sym, ap, ◌∙◌}
use Rattle.fcgi_model.specs.Pairs.{has_underscore}
use Rattle.fcgi_lane.proofs.request.variables.is_handed.Goals as goal

pub returns-then-is_kept_back : goal.returns-then-is_kept_back
returns-then-is_kept_back c =
    let odd : Bool = has_underscore c.args.field.name.now in
    sym (ap (λ (kept : Bool). not (kept || odd)) (sym (c.is_kept_back.ensures c.args.field.value.now) ∙ c.if-is_kept_back.true))

pub returns : goal.returns
returns c =
    let odd : Bool = has_underscore c.args.field.name.now in
    ap not c.has_underscore.ensures ∙ sym (ap (λ (kept : Bool). not (kept || odd)) (sym (c.is_kept_back.ensures c.args.field.value.now) ∙ c.if-is_kept_back.false))
