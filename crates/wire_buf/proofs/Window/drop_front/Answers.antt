use Rattle.std.proofs.Common.{◌≡◌, ◌-◌, List, ℕ, take, drop, length, sym, ap, ◌∙◌, arith}
use Rattle.wire_buf.proofs.Storing.{went, all_went, length-shown}
use Rattle.wire_buf.proofs.Window.drop_front.Goals as goal
use Rattle.wire_buf.proofs.Window.drop_front.Goals.{then-left-gt0, else-left-gt0}

pub returns-clause-items : goal.returns-clause-items
returns-clause-items c =
    let ring : List ℕ = c.self.inside.ring.items in let len : ℕ = c.self.inside.len in let n : ℕ = c.args.n in
    let is : take len (drop c.self.inside.begin ring) ≡ c.args.self.now.items = ap (λ b. b.items) c.self.view_is in
    let size : length (take len (drop c.self.inside.begin ring)) ≡ len = length-shown ring c.self.inside.begin len (omega (arith, c.self.invariant.stand)) in
    let held : length c.args.self.now.items ≡ len = sym (ap length is) ∙ size in
    elim c.if-left-gt0.branch [
      | then-left-gt0 w ↦ ap (λ (at : ℕ). take (len - n) (drop at ring)) w.self-is ∙ went ring c.self.inside.begin len n (omega (arith, c.requires, held)) ∙ ap (drop n) is
      | else-left-gt0 w ↦ all_went c.args.self.now.items (drop c.if-left-gt0.self ring) n (len - n) (omega (arith, w.if-left-gt0.false)) (omega (arith, w.if-left-gt0.false, held))
    ]
