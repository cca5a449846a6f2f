-- What each machine makes of the bytes that may still come.
use Rattle.std.specs.Prelude.{ℕ, ◌<◌, ◌≤◌, length, IfSome, Bool, true, false, Option, List, [], ◌++◌, take}
use Rattle.body_filter.specs.declared.filter_spec.FedState.{FedState}
use Rattle.body_filter.specs.declared.filter_spec.FedState.TheVariants.{Going, Over, Refused}
use Rattle.body_filter.specs.declared.passer.Passer.{Passer}
use Rattle.body_filter.specs.declared.limiter.Limiter.{Limiter}
use Rattle.body_filter.specs.Filter.{ended, behind, limited, searched, passed}
use Rattle.body_filter.specs.Feeding.{Meaning}
use Rattle.body_filter.specs.Held.{HeldBytes}

-- a machine that goes on has its own meaning, one that ended gives nothing more
abbrev pub while : FedState → Meaning → Meaning
while Going meaning = meaning
while Over meaning = λ whole rest. ended Over
while (Refused code) meaning = λ whole rest. ended (Refused code)

abbrev pub passer_meaning : Passer → Meaning
passer_meaning p = while p.state passed

abbrev pub limiter_meaning : Limiter → Meaning
limiter_meaning l = while l.state (limited l.left)

-- so many bytes of the needle are kept back
abbrev pub searching : List ℕ → Option (List ℕ) → ℕ → Meaning
searching needle to kept = λ whole rest. searched needle to 0 whole (take kept needle ++ rest)

-- where the body is known to be whole, nothing that follows counts
abbrev pub closed : Bool → Meaning → Meaning
closed true meaning = λ whole rest. meaning true []
closed false meaning = meaning

-- where a search stands: it holds these bytes, to be given first
pub record SearchAt : Type 0 where
  pub needle : List ℕ
  pub to : Option (List ℕ)
  pub kept : ℕ
  pub held : HeldBytes
  pub state : FedState
  pub whole : Bool

abbrev pub searcher_meaning : SearchAt → Meaning
searcher_meaning s = λ whole rest. behind s.held.items (while s.state (closed s.whole (searching s.needle s.to s.kept)) whole rest)

-- a searcher's buffer takes what one byte may bring
pub record IsSearcher (needle : List ℕ) (to : Option (List ℕ)) (kept : ℕ) (held : HeldBytes) : Type 0 where
  pub fits : kept < length needle
  pub needles : length needle < held.size
  pub texts : IfSome to (λ text. length text ≤ held.size)
