-- What a chain stands for.
use Rattle.std.specs.Prelude.{◌≡◌, ℕ, Bool, true, List, [], ◌++◌}
use Rattle.body_filter.specs.declared.filter_spec.FilterSpec.{FilterSpec}
use Rattle.body_filter.specs.declared.chain.Chain.{Chain}
use Rattle.body_filter.specs.declared.line.Line.{Line}
use Rattle.body_filter.specs.declared.source.Source.{Source}
use Rattle.body_filter.specs.Filter.{behind, filtered}
use Rattle.body_filter.specs.Feeding.{Meaning}
use Rattle.body_filter.specs.Sources.{source_meaning, source_fresh}
use Rattle.body_filter.specs.Pairs.{lined}

abbrev pub line_meaning : {B : Type 0} → (B → Meaning) → Line B → Meaning
line_meaning meaning line = lined meaning (source_meaning line.source) line.mid.items line.next

abbrev pub line_fresh : {B : Type 0} → (B → Meaning) → Line B → Meaning
line_fresh fresh line = lined fresh (source_fresh line.source) [] line.next

-- eight machines, one behind another
abbrev pub Machines : Type 0
Machines = Line (Line (Line (Line (Line (Line (Line Source))))))

abbrev pub machines_meaning : Machines → Meaning
machines_meaning = line_meaning (line_meaning (line_meaning (line_meaning (line_meaning (line_meaning (line_meaning source_meaning))))))

abbrev pub machines_fresh : Machines → Meaning
machines_fresh = line_fresh (line_fresh (line_fresh (line_fresh (line_fresh (line_fresh (line_fresh source_fresh))))))

-- what a chain makes of the bytes that may still come
abbrev pub chain_meaning : Chain → Meaning
chain_meaning c = machines_meaning c.line.value

-- and of a body that has not begun
abbrev pub chain_fresh : Chain → Meaning
chain_fresh c = machines_fresh c.line.value

-- a chain of these filters, in some body
abbrev pub IsChain : List FilterSpec → Chain → Type 0
IsChain filters chain = (whole : Bool) (rest : List ℕ) → chain_fresh chain whole rest ≡ filtered filters whole rest

-- A chain of these filters used these bytes of a body and gave those: whatever follows, it will give the rest.
pub record HasFiltered (filters : List FilterSpec) (used given : List ℕ) (chain : Chain) : Type 0 where
  pub is : IsChain filters chain
  pub goes_on : (whole : Bool) (rest : List ℕ) → filtered filters whole (used ++ rest) ≡ behind given (chain_meaning chain whole rest)

-- a chain of these filters used this whole body, and gave those bytes
pub record HasFilteredAll (filters : List FilterSpec) (body given : List ℕ) (chain : Chain) : Type 0 where
  pub is : IsChain filters chain
  pub ends : filtered filters true body ≡ behind given (chain_meaning chain true [])
