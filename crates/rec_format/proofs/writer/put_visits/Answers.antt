use Rattle.std.proofs.Common.{◌≡◌, ℕ, ◌++◌, length, sym, subst}
use Rattle.std.specs.Prelude.{OnOk, codes}
use Rattle.rec_format.specs.Read.{visits}
use Rattle.rec_format.specs.Written.{numbered_text}
use Rattle.rec_format.proofs.Joining.{counted_visits, joined_texts}
use Rattle.rec_format.proofs.writer.put_visits.Goals as goal

pub returns : goal.returns
returns c =
    subst (λ (n : ℕ). OnOk c.put_numbered.result (c.put_numbered.new.text.items ≡ c.args.text.now.items ++ (codes "PXREC 2\n" ++ numbered_text n (visits c.args.conns.now)))) (sym (counted_visits c.args.conns.now))
    (joined_texts c.put_numbered.result c.args.text.now.items (codes "PXREC 2\n") (numbered_text (length c.args.conns.now) (visits c.args.conns.now)) c.extend_from_slice.new.self.items c.put_numbered.new.text.items c.in_ok-extend_from_slice.ensures.items c.put_numbered.ensures)
