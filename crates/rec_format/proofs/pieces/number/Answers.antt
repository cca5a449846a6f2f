use Rattle.std.proofs.Common.{◌≡◌, ◌+◌, ◌*◌, ◌-◌, ◌^◌, ◌∷◌, min, drop, get_or, rules, arith, ap, sym, ◌∙◌, drop-cons, add-one}
use Rattle.std.specs.Str.Parse.{digits_value_after}
use Rattle.std.specs.Char.{digit_value}
use Rattle.rec_format.proofs.Capped.{capped}
use Rattle.rec_format.proofs.pieces.number.Goals as goal

pub loop-byte-preserved : goal.loop-byte-preserved
loop-byte-preserved c =
    let at = c.loop-byte.byte-index in
    let word = c.args.word.now in
    let byte = get_or word at 0 in
    let n = c.loop-byte.number in
    let next : drop at word ≡ byte ∷ drop (at + 1) word = rw (add-one) (drop-cons word at 0 (omega arith)) in
    let step : min (digits_value_after 10 (n * 10 + digit_value byte) (drop (at + 1) word)) (2 ^ 64 - 1) ≡ min (digits_value_after 10 n (drop at word)) (2 ^ 64 - 1) = ap (λ l. min (digits_value_after 10 n l) (2 ^ 64 - 1)) (sym next) in
    record {
      all = search rules;
      small = search rules;
      value = rw c.add_digit-number.ensures (capped (n * 10 + digit_value byte) (drop (at + 1) word) ∙ step ∙ c.loop-byte.invariant.value);
    }
