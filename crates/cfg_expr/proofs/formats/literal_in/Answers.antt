use Rattle.std.proofs.Common.{◌≡◌, ◌≢◌, ◌++◌, take, drop, ap, ◌∙◌, arith, rules}
use Rattle.cfg_expr.proofs.Texts.{literal_end, literal_on, first_byte}
use Rattle.cfg_expr.specs.Formats.{piece_len}
use Rattle.cfg_expr.proofs.formats.literal_in.Goals as goal

pub returns-then-len-eq0 : goal.returns-then-len-eq0
returns-then-len-eq0 c =
    let none : piece_len c.each.rest.now ≡ 0 = omega arith in
    literal_end c.args.text.now c.each.literal c.each.rest.now c.each.invariant none

pub each-preserved : goal.each-preserved
each-preserved c =
    let some : piece_len c.each.rest.now ≢ 0 = search rules in
    let on = literal_on c.args.text.now c.each.literal c.each.rest.now c.each.invariant some in
    let byte = first_byte c.each.rest.now some in
    let pushed : c.push.new.self ≡ c.each.literal ++ take 1 c.each.rest.now = search rules in
    let left : c.split_at.result.1.now ≡ drop (piece_len c.each.rest.now) c.each.rest.now =
    c.split_at.ensures.back ∙ ap (λ n. drop n c.each.rest.now) c.piece_len-len.ensures.len in
    rw (pushed ∙ ap (λ bytes. c.each.literal ++ bytes) byte, left) on
