use Rattle.std.proofs.Common.{◌≡◌, [], sym, ◌∙◌, drop, arith}
use Rattle.std.proofs.lemmas.List.{drop_all}
use Rattle.lane.proofs.SieveLemmas.Sifting.{reset_at}
use Rattle.lane.proofs.sieve.sieve.Sieve.reset.Goals as goal

pub returns-clause-sieved : goal.returns-clause-sieved
returns-clause-sieved c = λ filters found passed s.
    let held = c.args.self.now.held.items in
    let none : drop c.len.result held ≡ [] = drop_all c.len.result held (omega (arith, c.len.ensures.len)) in
    record {
      used = [];
      found_is = sym (c.drop_front.ensures.items ∙ none);
      has = reset_at c.args.self.now.end filters found passed held c.args.self.now.chain c.reset.new.self c.reset.ensures.going c.reset.ensures.ended s;
    }
