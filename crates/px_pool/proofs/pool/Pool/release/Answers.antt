use Rattle.std.proofs.Common.{rules, ◌≡◌, ◌∙◌, ap, subst, None, true, length}
use Rattle.std.specs.Prelude.{set}
use Rattle.px_pool.specs.Owners.{has_one, place_of, count_out, SameBeside}
use Rattle.px_pool.specs.Seats.{Seats, core_of, count_sets}
use Rattle.px_pool.proofs.Taken.{has_none}
use Rattle.px_pool.proofs.Given.{given_shared, given_gone, given_other, given_count, given_beside, given_sets, back}
use Rattle.px_pool.proofs.pool.Pool.release.Goals as goal

pub invariant_of-self : goal.invariant_of-self
invariant_of-self g c = given_shared c.seat-place.result c.self.inside.owners.items _ c.self.invariant

pub returns-clause-gone : goal.returns-clause-gone
returns-clause-gone g c =
    let at : c.seat-place.result ≡ place_of c.args.conn c.self.inside.owners.items = search rules in
    given_gone c.args.conn c.seat-place.result c.self.inside.owners.items at c.self.invariant.apart

pub returns-clause-others : goal.returns-clause-others
returns-clause-others g c = λ other h.
    let at : c.seat-place.result ≡ place_of c.args.conn c.self.inside.owners.items = search rules in
    given_other c.args.conn c.seat-place.result other c.self.inside.owners.items c.self.inside.cores.items at h ∙ ap (λ (p : Seats _). core_of other p) c.self.view_is

pub returns-clause-free : goal.returns-clause-free
returns-clause-free g c =
    let at : c.seat-place.result ≡ place_of c.args.conn c.self.inside.owners.items = search rules in
    let same : length c.self.inside.owners.items ≡ length c.self.inside.cores.items = search rules in
    back c.args.conn c.seat-place.result c.self.inside.owners.items c.self.inside.cores.items c.args.self.now c.self.view_is at c.requires.has same

pub returns-clause-out : goal.returns-clause-out
returns-clause-out g c =
    let at : c.seat-place.result ≡ place_of c.args.conn c.self.inside.owners.items = search rules in
    let has : has_one c.args.conn c.self.inside.owners.items ≡ true = ap (λ (p : Seats _). has_one c.args.conn p.owners) c.self.view_is ∙ c.requires.has in
    given_count c.args.conn c.seat-place.result c.self.inside.owners.items at has ∙ ap (λ (p : Seats _). count_out p.owners) c.self.view_is

pub returns-clause-none : goal.returns-clause-none
returns-clause-none g c =
    let at : c.seat-place.result ≡ place_of c.args.conn c.self.inside.owners.items = search rules in
    has_none c.args.conn _ c.self.inside.cores.items (given_gone c.args.conn c.seat-place.result c.self.inside.owners.items at c.self.invariant.apart)

pub returns-clause-beside : goal.returns-clause-beside
returns-clause-beside g c =
    let at : c.seat-place.result ≡ place_of c.args.conn c.self.inside.owners.items = search rules in
    let has : has_one c.args.conn c.self.inside.owners.items ≡ true = ap (λ (p : Seats _). has_one c.args.conn p.owners) c.self.view_is ∙ c.requires.has in
    subst (λ (p : Seats _). SameBeside c.args.conn p.owners (set c.self.inside.owners.items c.seat-place.result None)) c.self.view_is (given_beside c.args.conn c.seat-place.result c.self.inside.owners.items at c.self.invariant.apart has)

pub returns-clause-sets : goal.returns-clause-sets
returns-clause-sets g c =
    let at : c.seat-place.result ≡ place_of c.args.conn c.self.inside.owners.items = search rules in
    let has : has_one c.args.conn c.self.inside.owners.items ≡ true = ap (λ (p : Seats _). has_one c.args.conn p.owners) c.self.view_is ∙ c.requires.has in
    let same : length c.self.inside.owners.items ≡ length c.self.inside.cores.items = search rules in
    given_sets c.args.conn c.seat-place.result c.self.inside.owners.items c.self.inside.cores.items at same has ∙ ap (λ (p : Seats _). count_sets p) c.self.view_is
