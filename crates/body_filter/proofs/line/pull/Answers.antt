use Rattle.std.proofs.Common.{rules, ◌≡◌, ℕ, List, Bool, ◌∙◌, ap, sym, subst, take, drop}
use Rattle.body_filter.specs.declared.filter_spec.FedState.TheVariants.{Over}
use Rattle.body_filter.specs.Filter.{behind, is_over}
use Rattle.body_filter.specs.Feeding.{Meaning, Feeds}
use Rattle.body_filter.specs.Pairs.{paired}
use Rattle.body_filter.proofs.Pairing.{relayed, cleared}
use Rattle.body_filter.proofs.line.pull.Goals as goal

pub returns-then-eq-clause-meaning : goal.returns-then-eq-clause-meaning
returns-then-eq-clause-meaning g c = λ first tells whole rest.
    let mid : List ℕ = c.args.mid.now.items in
    let n : Meaning = g.B.Machine.meaning c.args.next.now in
    let n' : Meaning = g.B.Machine.meaning c.feed-fed.new.self in
    let out : List ℕ = c.feed-fed.new.out in
    let fed = c.feed-fed.result in
    let ended : c.has_ended.result ≡ is_over c.args.told = c.has_ended.ensures in
    let feeds = subst (λ (xs : List ℕ). Feeds n xs (is_over c.args.told) fed out n') c.as_slice.ensures (subst (λ (b : Bool). Feeds n c.as_slice.result.now b fed out n') ended c.feed-fed.ensures.feeds) in
    let over : fed.state ≡ Over = search rules in
    relayed first mid n n' c.args.told fed out feeds tells whole rest
    ∙ ap (behind (take fed.given out)) (cleared first (drop fed.used mid) n' fed.state feeds.told (ap is_over over) whole rest)
    ∙ ap (λ xs. behind (take fed.given out) (paired first xs n' whole rest)) (sym c.clear.ensures.items)

pub returns-clause-meaning : goal.returns-clause-meaning
returns-clause-meaning g c = λ first tells whole rest.
    let mid : List ℕ = c.args.mid.now.items in
    let n : Meaning = g.B.Machine.meaning c.args.next.now in
    let n' : Meaning = g.B.Machine.meaning c.feed-fed.new.self in
    let out : List ℕ = c.feed-fed.new.out in
    let fed = c.feed-fed.result in
    let ended : c.has_ended.result ≡ is_over c.args.told = c.has_ended.ensures in
    let feeds = subst (λ (xs : List ℕ). Feeds n xs (is_over c.args.told) fed out n') c.as_slice.ensures (subst (λ (b : Bool). Feeds n c.as_slice.result.now b fed out n') ended c.feed-fed.ensures.feeds) in
    relayed first mid n n' c.args.told fed out feeds tells whole rest
    ∙ ap (λ xs. behind (take fed.given out) (paired first xs n' whole rest)) (sym c.drop_front.ensures.items)
