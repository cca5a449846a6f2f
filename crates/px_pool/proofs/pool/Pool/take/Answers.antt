use Rattle.std.proofs.Common.{rules, ◌≡◌, ◌∙◌, ap, sym, subst, refl, Some, true, false, ◌+◌, length}
use Rattle.std.specs.Prelude.{set}
use Rattle.px_pool.specs.Owners.{has_one, all_out, count_out, first_free, SameBeside}
use Rattle.px_pool.specs.Seats.{Seats, core_of, free_of, count_sets, first_of, rest_of}
use Rattle.px_pool.proofs.Taken.{taken_shared, taken_has_at, taken_count_at, taken_core_at, taken_free_at, taken_other_at, taken_beside, taken_sets, none_free, has_none}
use Rattle.px_pool.proofs.pool.Pool.take.Goals as goal

pub returns-in_default-clause-core : goal.returns-in_default-clause-core
returns-in_default-clause-core g c =
    let all : all_out c.args.self.now.owners ≡ true = search rules in
    has_none c.args.conn c.args.self.now.owners c.args.self.now.cores c.requires.without ∙ sym (ap (λ l. first_of l) (none_free c.args.self.now.owners c.args.self.now.cores all))

pub returns-in_default-clause-free : goal.returns-in_default-clause-free
returns-in_default-clause-free g c =
    let all : all_out c.args.self.now.owners ≡ true = search rules in
    let none = none_free c.args.self.now.owners c.args.self.now.cores all in
    none ∙ sym (ap (λ l. rest_of l) none)

pub invariant_of-self : goal.invariant_of-self
invariant_of-self g c =
    let at : c.in-Some.place ≡ first_free c.self.inside.owners.items = search rules in
    taken_shared c.args.conn c.in-Some.place c.self.inside.owners.items _ at c.self.invariant (ap (λ (p : Seats _). has_one c.args.conn p.owners) c.self.view_is ∙ c.requires.without)

pub returns-clause-has : goal.returns-clause-has
returns-clause-has g c = λ set.
    let at : c.in-Some.place ≡ first_free c.self.inside.owners.items = search rules in
    let some : all_out c.self.inside.owners.items ≡ false = search rules in
    taken_has_at c.args.conn c.in-Some.place c.self.inside.owners.items at some

pub returns-clause-core : goal.returns-clause-core
returns-clause-core g c =
    let at : c.in-Some.place ≡ first_free c.self.inside.owners.items = search rules in
    taken_core_at c.args.conn c.in-Some.place c.self.inside.owners.items c.self.inside.cores.items at (ap (λ (p : Seats _). has_one c.args.conn p.owners) c.self.view_is ∙ c.requires.without) ∙ ap (λ (p : Seats _). first_of (free_of p)) c.self.view_is

pub returns-clause-free : goal.returns-clause-free
returns-clause-free g c =
    let at : c.in-Some.place ≡ first_free c.self.inside.owners.items = search rules in
    taken_free_at c.args.conn c.in-Some.place c.self.inside.owners.items c.self.inside.cores.items at ∙ ap (λ (p : Seats _). rest_of (free_of p)) c.self.view_is

pub returns-clause-others : goal.returns-clause-others
returns-clause-others g c = λ other h.
    let at : c.in-Some.place ≡ first_free c.self.inside.owners.items = search rules in
    taken_other_at c.args.conn c.in-Some.place other c.self.inside.owners.items c.self.inside.cores.items at h ∙ ap (λ (p : Seats _). core_of other p) c.self.view_is

pub returns-clause-out : goal.returns-clause-out
returns-clause-out g c = λ set.
    let at : c.in-Some.place ≡ first_free c.self.inside.owners.items = search rules in
    let some : all_out c.self.inside.owners.items ≡ false = search rules in
    taken_count_at c.args.conn c.in-Some.place c.self.inside.owners.items at some ∙ ap (λ (p : Seats _). 1 + count_out p.owners) c.self.view_is

pub returns-in_default-clause-beside : goal.returns-in_default-clause-beside
returns-in_default-clause-beside g c = record { sets = refl; others = λ other h. refl; counts = refl }

pub returns-clause-beside : goal.returns-clause-beside
returns-clause-beside g c =
    let at : c.in-Some.place ≡ first_free c.self.inside.owners.items = search rules in
    let some : all_out c.self.inside.owners.items ≡ false = search rules in
    let without : has_one c.args.conn c.self.inside.owners.items ≡ false = ap (λ (p : Seats _). has_one c.args.conn p.owners) c.self.view_is ∙ c.requires.without in
    subst (λ (p : Seats _). SameBeside c.args.conn p.owners (set c.self.inside.owners.items c.in-Some.place (Some c.args.conn))) c.self.view_is (taken_beside c.args.conn c.in-Some.place c.self.inside.owners.items at some without)

pub returns-clause-sets : goal.returns-clause-sets
returns-clause-sets g c =
    let at : c.in-Some.place ≡ first_free c.self.inside.owners.items = search rules in
    let some : all_out c.self.inside.owners.items ≡ false = search rules in
    let same : length c.self.inside.owners.items ≡ length c.self.inside.cores.items = search rules in
    taken_sets c.args.conn c.in-Some.place c.self.inside.owners.items c.self.inside.cores.items at same some ∙ ap (λ (p : Seats _). count_sets p) c.self.view_is
