use Rattle.std.proofs.Common.{rules, ◌≡◌, ◌<◌, ◌+◌, ◌*◌, ℕ, List, [], true, ◌∙◌, ap, sym, subst, length, arith}
use Rattle.body_filter.specs.declared.filter_spec.FedState.TheVariants.{Going}
use Rattle.body_filter.specs.Filter.{through, ended}
use Rattle.body_filter.specs.Feeding.{Meaning, Feeds}
use Rattle.body_filter.specs.Pairs.{paired, Silent, to_tell}
use Rattle.body_filter.specs.Sources.{source_meaning}
use Rattle.body_filter.proofs.Pairing.{exit_pull, silent_pull, silent_fill, less_to_give, fewer_steps}
use Rattle.body_filter.proofs.line.run.Goals as goal
use Rattle.body_filter.proofs.line.run.Goals.{else-fed-eq0-via-then-fed-eq0+else-eq, else-fed-eq0-via-else-fed-eq0}

pub returns-then-pulled-gt0-clause-feeds : goal.returns-then-pulled-gt0-clause-feeds
returns-then-pulled-gt0-clause-feeds g c =
    let s : Meaning = source_meaning c.work.source in
    let m0 : Meaning = paired (source_meaning c.args.source.now) c.args.mid.now.items (g.B.Machine.meaning c.args.next.now) in
    let m1 : Meaning = paired s c.work.mid.items (g.B.Machine.meaning c.work.next) in
    let m2 : Meaning = paired s c.pull-pulled.new.mid.items (g.B.Machine.meaning c.pull-pulled.new.next) in
    exit_pull m0 m1 m2 c.args.piece.now c.args.last c.pull-pulled.result.given c.pull-pulled.result.state c.pull-pulled.new.out c.work.invariant.silent
    (c.pull-pulled.ensures.meaning s c.told.ensures.holds) (c.pull-pulled.ensures.told s c.told.ensures.holds) c.pull-pulled.ensures.given (λ _ none. omega (arith, none, c.if-pulled-gt0.true))

pub returns-then-ne-clause-feeds : goal.returns-then-ne-clause-feeds
returns-then-ne-clause-feeds g c =
    let s : Meaning = source_meaning c.work.source in
    let m0 : Meaning = paired (source_meaning c.args.source.now) c.args.mid.now.items (g.B.Machine.meaning c.args.next.now) in
    let m1 : Meaning = paired s c.work.mid.items (g.B.Machine.meaning c.work.next) in
    let m2 : Meaning = paired s c.pull-pulled.new.mid.items (g.B.Machine.meaning c.pull-pulled.new.next) in
    let none : c.pull-pulled.result.given ≡ 0 = omega (arith, c.if-pulled-gt0.false) in
    let busy : c.pull-pulled.result.state ≡ Going → ⊥ = λ on. search rules in
    subst (λ (k : ℕ). Feeds m0 c.args.piece.now c.args.last (record { used = 0; given = k; state = c.pull-pulled.result.state }) c.pull-pulled.new.out m2) none
    (exit_pull m0 m1 m2 c.args.piece.now c.args.last c.pull-pulled.result.given c.pull-pulled.result.state c.pull-pulled.new.out c.work.invariant.silent
    (c.pull-pulled.ensures.meaning s c.told.ensures.holds) (c.pull-pulled.ensures.told s c.told.ensures.holds) c.pull-pulled.ensures.given (λ on _. busy on))

pub work-preserved : goal.work-preserved
work-preserved g c =
    let s : Meaning = source_meaning c.work.source in
    let m0 : Meaning = paired (source_meaning c.args.source.now) c.args.mid.now.items (g.B.Machine.meaning c.args.next.now) in
    let m1 : Meaning = paired s c.work.mid.items (g.B.Machine.meaning c.work.next) in
    let m2 : Meaning = paired s c.pull-pulled.new.mid.items (g.B.Machine.meaning c.pull-pulled.new.next) in
    record {
      size = c.pull-pulled.ensures.size ∙ c.work.invariant.size;
      room = search rules;
      source = c.work.invariant.source;
      next = c.pull-pulled.ensures.fresh ∙ c.work.invariant.next;
      silent = silent_pull m0 m1 m2 c.args.piece.now c.args.last c.pull-pulled.result.given c.pull-pulled.new.out c.work.invariant.silent (omega (arith, c.if-pulled-gt0.false)) (c.pull-pulled.ensures.meaning s c.told.ensures.holds);
    }

pub work-preserved-else-fed-eq0 : goal.work-preserved-else-fed-eq0
work-preserved-else-fed-eq0 g c =
    let s : Meaning = source_meaning c.work.source in
    let n : Meaning = g.B.Machine.meaning c.pull-pulled.new.next in
    let m0 : Meaning = paired (source_meaning c.args.source.now) c.args.mid.now.items (g.B.Machine.meaning c.args.next.now) in
    let m1 : Meaning = paired s c.work.mid.items (g.B.Machine.meaning c.work.next) in
    let m2 : Meaning = paired s c.pull-pulled.new.mid.items n in
    let none : c.pull-pulled.result.given ≡ 0 = omega (arith, c.if-pulled-gt0.false) in
    let on : c.pull-pulled.result.state ≡ Going = search rules in
    let idle : (c.told.result ≡ Going) × (c.pull-pulled.new.mid.items ≡ []) × (through (ended Going) n ≡ ended Going) = c.pull-pulled.ensures.idle on c.if-pulled-eq0.true none in
    let pulled : Silent m0 m2 c.args.piece.now c.args.last = silent_pull m0 m1 m2 c.args.piece.now c.args.last c.pull-pulled.result.given c.pull-pulled.new.out c.work.invariant.silent none (c.pull-pulled.ensures.meaning s c.told.ensures.holds) in
    record {
      size = c.fill-fed.ensures.size ∙ c.pull-pulled.ensures.size ∙ c.work.invariant.size;
      room = search rules;
      source = c.fill-fed.ensures.fresh ∙ c.work.invariant.source;
      next = c.pull-pulled.ensures.fresh ∙ c.work.invariant.next;
      silent = silent_fill m0 s (source_meaning c.fill-fed.new.self) n c.args.piece.now c.args.last c.fill-fed.result c.fill-fed.new.held.items
          (subst (λ (xs : List ℕ). Silent m0 (paired s xs n) c.args.piece.now c.args.last) idle.1 pulled) c.fill-fed.ensures.feeds (omega (arith, c.if-fed-gt0.false)) c.fill-fed.ensures.given;
    }

pub work-smaller-else-fed-eq0 : goal.work-smaller-else-fed-eq0
work-smaller-else-fed-eq0 g c =
    let s : Meaning = source_meaning c.work.source in
    let s' : Meaning = source_meaning c.fill-fed.new.self in
    let piece : List ℕ = c.args.piece.now in
    let items : List ℕ = c.fill-fed.new.held.items in
    let none : c.pull-pulled.result.given ≡ 0 = omega (arith, c.if-pulled-gt0.false) in
    let on : c.pull-pulled.result.state ≡ Going = search rules in
    let idle : (c.told.result ≡ Going) × (c.pull-pulled.new.mid.items ≡ []) × (through (ended Going) (g.B.Machine.meaning c.pull-pulled.new.next) ≡ ended Going) = c.pull-pulled.ensures.idle on c.if-pulled-eq0.true none in
    let busy : length items ≡ 0 → c.fill-fed.result.state ≡ Going → ⊥ = λ empty going. elim c.else-fed-eq0.branch [
      | else-fed-eq0-via-then-fed-eq0+else-eq w ↦ search rules
      | else-fed-eq0-via-else-fed-eq0 w ↦ omega (arith, w.if-fed-eq0.false, c.fill-fed.ensures.given, empty)
    ] in
    let less : length items + 2 * length (s' true piece).output + to_tell c.fill-fed.result.state < 2 * length (s true piece).output + 1
    = fewer_steps (length (s true piece).output) (length items) (length (s' true piece).output) c.fill-fed.result.state
    (less_to_give s s' piece c.args.last c.fill-fed.result items c.fill-fed.ensures.feeds (omega (arith, c.if-fed-gt0.false)) c.fill-fed.ensures.given) busy in
    let now : to_tell c.work.source.told ≡ 1 = ap to_tell (sym c.told.ensures.told ∙ idle.0) in
    let then : to_tell c.fill-fed.new.self.told ≡ to_tell c.fill-fed.result.state = ap to_tell c.fill-fed.ensures.told in
    omega (arith, less, now, then)
