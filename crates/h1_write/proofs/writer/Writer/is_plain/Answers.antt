use Rattle.std.proofs.Common.{◌≡◌, rules, subst, sym, ap}
use Rattle.h1_write.specs.declared.units.Coding.TheVariants.{Plain}
use Rattle.h1_write.specs.Spelled.{EvenAt, ended_at}
use Rattle.h1_write.proofs.Steps.{plain_data}
use Rattle.h1_write.proofs.writer.Writer.is_plain.Goals as goal

pub returns-in-Block-clause-writes : goal.returns-in-Block-clause-writes
returns-in-Block-clause-writes c = λ none.
    let w = c.args.self.now in
    let plain : w.coding ≡ Plain = search rules in
    let zero : c.in-Block.written ≡ 0 = search (rules, none) in
    plain_data w plain (subst EvenAt (sym c.in-Block.is) zero) (ap ended_at c.in-Block.is)
