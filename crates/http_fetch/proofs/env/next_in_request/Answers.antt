use Rattle.std.proofs.Common.{◌≡◌, ◌∙◌, List, [], Option, ap, sym, drop, slice_get, arith}
use Rattle.px_sample.specs.Sample.{Value}
use Rattle.http_fetch.specs.Fetches.{RequestAt, request_samples}
use Rattle.http_fetch.specs.Walk.{request_field, request_left, given_field, given_samples}
use Rattle.http_fetch.proofs.Starts.{none_at_end, same_left}
use Rattle.http_fetch.proofs.env.next_in_request.Goals as goal

pub returns-then-is_end-clause-given : goal.returns-then-is_end-clause-given
returns-then-is_end-clause-given c =
    let at : RequestAt = record { blocks = c.args.msg.now.blocks; vars = c.args.vars.now } in
    let none : request_left at c.args.fetch.now c.args.place.now ≡ [] =
    none_at_end (request_field c.args.fetch.now) at.blocks (request_samples at c.args.fetch.now) c.args.place.now (rw c.if-is_end.true at c.is_end.ensures) (omega arith)
    in
    ap (λ (left : List (Option Value)). slice_get left 0) (sym none)

pub returns-then-is_end-clause-left : goal.returns-then-is_end-clause-left
returns-then-is_end-clause-left c =
    let at : RequestAt = record { blocks = c.args.msg.now.blocks; vars = c.args.vars.now } in
    let none : request_left at c.args.fetch.now c.args.place.now ≡ [] =
    none_at_end (request_field c.args.fetch.now) at.blocks (request_samples at c.args.fetch.now) c.args.place.now (rw c.if-is_end.true at c.is_end.ensures) (omega arith)
    in
    none ∙ ap (λ (left : List (Option Value)). drop 1 left) (sym none)

pub returns-clause-given : goal.returns-clause-given
returns-clause-given c =
    let at : RequestAt = record { blocks = c.args.msg.now.blocks; vars = c.args.vars.now } in
    let given = c.of_request.result in
    c.next_given.ensures.given
    ∙ ap (λ (left : List (Option Value)). slice_get left 0)
    (same_left (given_field given) (request_field c.args.fetch.now) at.blocks (given_samples at.blocks given) (request_samples at c.args.fetch.now) c.args.place.now c.of_request.ensures.field c.of_request.ensures.all)

pub returns-clause-left : goal.returns-clause-left
returns-clause-left c =
    let at : RequestAt = record { blocks = c.args.msg.now.blocks; vars = c.args.vars.now } in
    let given = c.of_request.result in
    sym (same_left (given_field given) (request_field c.args.fetch.now) at.blocks (given_samples at.blocks given) (request_samples at c.args.fetch.now) c.next_given.new.place c.of_request.ensures.field c.of_request.ensures.all)
    ∙ (c.next_given.ensures.left
    ∙ ap (λ (left : List (Option Value)). drop 1 left)
    (same_left (given_field given) (request_field c.args.fetch.now) at.blocks (given_samples at.blocks given) (request_samples at c.args.fetch.now) c.args.place.now c.of_request.ensures.field c.of_request.ensures.all))
