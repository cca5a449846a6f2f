use Rattle.std.proofs.Common.{◌≡◌, ℕ, Bool, List, ap, subst, ◌∙◌}
use Rattle.std.specs.Prelude.{IfOk}
use Rattle.std.specs.List.{list_any}
use Rattle.px_sample.specs.Sample.{value_in}
use Rattle.acl_eval.specs.Matches.{text_matches}
use Rattle.acl_eval.proofs.Casting.{bytes_decide}
use Rattle.acl_eval.proofs.matching.matches_sample.Goals as goal

pub returns-in-InBuf : goal.returns-in-InBuf
returns-in-InBuf c =
    let test = c.args.test.now in
    let cast = rw c.in-InBuf.is at c.into_text.ensures.value in
    let same = ap (λ (bytes : List ℕ). list_any (text_matches test.how test.icase bytes) test.values) c.bytes.ensures.bytes in
    let decided = bytes_decide c.args.buf.now.cap test.how test.icase test.values (value_in c.args.sample c.args.buf.now.bytes) c.into_text.new.buf.bytes c.in_default.not-Found c.in_default.not-Bool c.in_default.not-Int cast in
    record {
      value = subst (λ (truth : Bool). IfOk c.matches_a_text.result (λ found. found ≡ truth)) (same ∙ decided) c.matches_a_text.ensures.value;
      succeeds = c.matches_a_text.ensures.succeeds;
      cap = c.into_text.ensures.cap;
    }
