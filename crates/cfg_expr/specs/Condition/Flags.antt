-- The flags of a test (Configuration Manual, section 7.1.1).
use Rattle.std.specs.Prelude.{ℕ, Bool, true, false, ◌==◌, List, [], ◌∷◌, Option, Some, None, Ok, Err, if◌then◌else◌, codes}
use Rattle.std.specs.Str.{bytes_eq}
use Rattle.acl_eval.specs.declared.condition.Match.{Match}
use Rattle.acl_eval.specs.declared.condition.Match.TheVariants as matches
use Rattle.cfg_expr.specs.declared.fault.TextKind.TheVariants.{Acl}
use Rattle.cfg_expr.specs.Steps.{◌>>=◌}
use Rattle.cfg_expr.specs.Faults.{Told}
use Rattle.cfg_expr.specs.declared.condition.flags.Flag.{Flag}
use Rattle.cfg_expr.specs.declared.condition.flags.Flag.TheVariants as words
use Rattle.cfg_expr.specs.declared.condition.flags.Flags.{Flags}
use Rattle.cfg_expr.specs.Condition.Values.{needed}

-- a match by its name
unfoldable pub match_of : List ℕ → Option Match
match_of word =
    if bytes_eq word (codes "found") then Some matches.Found
    else (if bytes_eq word (codes "bool") then Some matches.Bool
    else (if bytes_eq word (codes "int") then Some matches.Int
    else (if bytes_eq word (codes "len") then Some matches.Len
    else (if bytes_eq word (codes "str") then Some matches.Str
    else (if bytes_eq word (codes "beg") then Some matches.Beg
    else (if bytes_eq word (codes "end") then Some matches.End
    else (if bytes_eq word (codes "sub") then Some matches.Sub
    else (if bytes_eq word (codes "reg") then Some matches.Reg
    else None))))))))

-- it begins with `-`
abbrev pub is_dashed : List ℕ → Bool
is_dashed [] = false
is_dashed (b ∷ rest) = b == 45

-- what a word says where a flag may stand
unfoldable pub flag_of : List ℕ → Flag
flag_of word =
    if bytes_eq word (codes "-i") then words.IgnoreCase
    else (if bytes_eq word (codes "-m") then words.Match
    else (if bytes_eq word (codes "--") then words.End
    else (if is_dashed word then words.Unknown
    else words.Value)))

-- no flag so far
abbrev pub no_flags : Flags
no_flags = record { icase = false; how = None }

-- with this word and those behind it
abbrev pub flags_by : Flags → List ℕ → List (List ℕ) → Flag → ((lacking : Bool) → Flags → Told (Flags × List (List ℕ))) → Told (Flags × List (List ℕ))
flags_by so_far word others words.IgnoreCase more = more false (record { icase = true; how = so_far.how })
flags_by so_far word others words.Match more = more true so_far
flags_by so_far word others words.End more = Ok (so_far, others)
flags_by so_far word others words.Unknown more = Err Acl
flags_by so_far word others words.Value more = Ok (so_far, word ∷ others)

-- The flags in front of the values, and the values: up to `--`, or up to a word that does not begin with `-`. The last
-- `-m` counts; what is said is whether one stands in front that lacks its match.
abbrev pub flags_from : (lacking : Bool) → Flags → List (List ℕ) → Told (Flags × List (List ℕ))
flags_from true so_far [] = Err Acl
flags_from false so_far [] = Ok (so_far, [])
flags_from true so_far (word ∷ others) =
    needed (match_of word) >>= λ how. flags_from false (record { icase = so_far.icase; how = Some how }) others
flags_from false so_far (word ∷ others) =
    flags_by so_far word others (flag_of word) (λ lacking next. flags_from lacking next others)
