use Rattle.std.proofs.Common.{rules, ◌≡◌, ◌≤◌, ◌+◌, ◌-◌, ◌*◌, ◌∙◌, true, get_or, drop, sym, ap, subst, arith}
use Rattle.std.specs.Prelude.{ℕ, min}
use Rattle.std.specs.Char.{is_ascii_digit}
use Rattle.std.specs.Str.Parse.{digits_value_after}
use Rattle.std.proofs.lemmas.Grind.{common_steps}
use Rattle.std.proofs.Math.Nat.{min-le_right}
use Rattle.cfg_parse.proofs.SizeLemmas.{digits_value_after-more, min_after}
use Rattle.cfg_parse.proofs.sizes.number_up_to.Goals as goal

pub loop-byte-preserved : goal.loop-byte-preserved
loop-byte-preserved c =
    let word = c.args.word.now in
    let i = c.loop-byte.byte-index in
    let before = c.loop-byte.invariant in
    let is : is_ascii_digit (get_or word i 0) ≡ true = sym c.is_ascii_digit.ensures.value ∙ c.if-not-is_ascii_digit.false in
    let more = digits_value_after-more c.loop-byte.number word i c.loop-byte-test.true is in
    let read : ℕ = c.loop-byte.number * 10 + (get_or word i 0 - 48) in
    let cut : c.min-number.result ≡ min read c.args.most = search rules in
    record {
      all = grind (arith, common_steps);
      value = ap (λ (n : ℕ). min (digits_value_after 10 n (drop (i + 1) word)) c.args.most) cut
          ∙ min_after read c.args.most (drop (i + 1) word) ∙ ap (λ (n : ℕ). min n c.args.most) (sym more) ∙ before.value;
      small = subst (λ (n : ℕ). n ≤ c.args.most) (sym cut) (min-le_right read c.args.most);
    }
