-- What a window says of each stream that begins with it.
use Rattle.std.specs.Prelude.{◌≡◌, ℕ, ◌<◌, List, [], ◌++◌, Bool, true, ◌==◌, length, count_by, ◌≤◌, ◌⊎◌, false, ⊤}
use Rattle.http_model.specs.declared.Limits.{Limits}
use Rattle.h1_head.specs.Numbers.{most_fields, most_lines}
use Rattle.h1_head.specs.declared.answer.HeadWhy.{HeadWhy}
use Rattle.h1_head.specs.declared.answer.HeadWhy.TheVariants as why
use Rattle.h1_head.specs.Kind.{HeadKind}
use Rattle.h1_head.specs.Stream.{behind, HasNone, IsHeadless, HasRefusedHead}

-- P of whatever may follow a window: of nothing alone where the window is the whole stream
abbrev pub OnEachStream : (whole : Bool) → (List ℕ → Type 0) → Type 0
OnEachStream whole P = (more : List ℕ) → (whole ≡ true → more ≡ []) → P more

-- the byte that ends a line
abbrev pub is_line_feed : ℕ → Bool
is_line_feed b = b == 10

-- Where a reader may ask for more of the stream: behind the empty lines stands nothing that the grammar parses, whatever
-- its size and its status, and there are fewer bytes and line feeds than a head may have. Where the stream has ended there
-- are empty lines alone.
pub record MayWait (K : HeadKind) (limits : Limits) (whole : Bool) (window : List ℕ) : Type 0 where
  pub ended : whole ≡ true → behind window ≡ []
  pub no_head : HasNone K (behind window)
  pub short : length (behind window) < limits.bufsize
  pub few_lines : count_by is_line_feed (behind window) < most_lines

-- no stream that begins with the window begins with a head within the limits
abbrev pub IsHopeless : HeadKind → Limits → (whole : Bool) → List ℕ → Type 0
IsHopeless K limits whole window = OnEachStream whole (λ more. IsHeadless K limits (window ++ more))

-- whatever follows, a head that begins with these bytes has more fields than it may
abbrev pub Overflows : HeadKind → List ℕ → Type 0
Overflows K bytes = (more : List ℕ) (h : K.Tree) (rest : List ℕ) → K.Reads (bytes ++ more) h rest → most_fields < K.count h

-- Why a window is too long: each head that begins so has too many fields, or the stream goes on and the bytes or lines
-- of a head are used up. A text that ends in mid-head is none of these.
abbrev pub IsTooLong : HeadKind → Limits → (whole : Bool) → List ℕ → Type 0
IsTooLong K limits whole window =
    Overflows K (behind window)
    ⊎ ((whole ≡ false) × ((limits.bufsize ≤ length (behind window)) ⊎ (most_lines ≤ count_by is_line_feed (behind window))))

-- P, where the reason is Long
abbrev pub WhereLong : HeadWhy → Type 0 → Type 0
WhereLong why.Grammar P = ⊤
WhereLong why.Long P = P
WhereLong why.Name P = ⊤
WhereLong why.Host P = ⊤
WhereLong why.Method P = ⊤
WhereLong why.Framing P = ⊤
WhereLong why.Coding P = ⊤
WhereLong why.Receive P = ⊤

-- Why a window is refused: for its text no stream that begins so has a head within the limits, and for each other
-- reason such a head stands in the window.
abbrev pub RefusesFor : HeadKind → Limits → (whole : Bool) → List ℕ → HeadWhy → Type 0
RefusesFor K limits whole window why.Grammar = IsHopeless K limits whole window
RefusesFor K limits whole window why.Long = IsHopeless K limits whole window
RefusesFor K limits whole window why.Name = HasRefusedHead K limits window why.Name
RefusesFor K limits whole window why.Host = HasRefusedHead K limits window why.Host
RefusesFor K limits whole window why.Method = HasRefusedHead K limits window why.Method
RefusesFor K limits whole window why.Framing = HasRefusedHead K limits window why.Framing
RefusesFor K limits whole window why.Coding = HasRefusedHead K limits window why.Coding
RefusesFor K limits whole window why.Receive = HasRefusedHead K limits window why.Receive
