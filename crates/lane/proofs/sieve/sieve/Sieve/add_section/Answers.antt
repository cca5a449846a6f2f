use Rattle.std.proofs.Common.{ℕ, List, sym, subst}
use Rattle.std.specs.Prelude.{OnOk, IsOk, Result, Ok, Err}
use Rattle.htx_arena.specs.declared.arena.Full.{Full}
use Rattle.h1_body.specs.Section.{HasTrailers}
use Rattle.lane.proofs.sieve.sieve.Sieve.add_section.Goals as goal

on_ok : (r : Result (Unit {0}) Full) (P : Type 0) → IsOk r → OnOk r P → P
on_ok (Ok x) P is h = h
on_ok (Err e) P is h = absurd (cc)

pub returns-clause-added : goal.returns-clause-added
returns-clause-added c = λ trailers has fits.
    let here = subst (λ (xs : List ℕ). HasTrailers xs trailers) (sym c.bytes.ensures.value) has in
    on_ok c.add_trailers-added.result _ ((c.add_trailers-added.ensures.fits trailers here).1 fits) (c.add_trailers-added.ensures.ok trailers here)
