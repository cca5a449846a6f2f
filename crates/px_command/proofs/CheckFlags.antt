-- What `clap` makes of `check`, a flag and a word of which no dash stands in front: it finds no fault in them. As in `ThreeWords`, its walk is taken a word at a time.
use Rattle.std.proofs.Common.{◌≡◌, ◌==◌, ℕ, List, [], ◌∷◌, true, false, refl, ap, codes}
use Rattle.clap.specs.Words.{Text, fault_of}
use Rattle.clap.specs.Faults.{level_fault, turn_fault, walk_fault}
use Rattle.clap.specs.Kinds.{Kinds}
use Rattle.clap.specs.Simple.{Shape, built, names_of}
use Rattle.clap.specs.Walk.{Walk, nothing_held, walk_from, walked}
use Rattle.clap.proofs.OnLiterals.{clap_on_literals}
use Rattle.px_command.specs.Parser.{parser}
use Rattle.px_command.proofs.ThreeWords.{level_of, walk_behind, walks_on, rest_of_level, level_passes}

abbrev check_level : Shape
check_level = level_of (codes "check")

-- the walk behind a flag
abbrev behind_flag : (flag : Text) → Walk
behind_flag flag = walked check_level.rules [] (walk_from nothing_held) flag

-- and behind the word that follows
abbrev behind_file : (flag file : Text) → Walk
behind_file flag file = walk_behind check_level (behind_flag flag).held 2 (codes "FILE") file

-- ---- a flag and a word, each without fault

below_passes : (flag file : Text) → turn_fault check_level [] (walk_from nothing_held) flag ≡ [] → turn_fault check_level [] (behind_flag flag) file ≡ []
    → walked check_level.rules [] (behind_flag flag) file ≡ behind_file flag file → walk_fault check_level [] (behind_file flag file) [] ≡ []
    → rest_of_level check_level (behind_file flag file).held ≡ [] → level_fault check_level [] nothing_held (flag ∷ file ∷ []) false [] ≡ []
below_passes flag file turn_flag turn_file is ends rest =
    level_passes check_level (flag ∷ file ∷ []) (behind_file flag file).held
    (walks_on check_level [] (walk_from nothing_held) (behind_flag flag) flag (file ∷ []) turn_flag refl
    (walks_on check_level [] (behind_flag flag) (behind_file flag file) file [] turn_file is ends))
    (ap (λ (w : Walk). w.held) is) rest

-- ---- each flag

turn_all : turn_fault check_level [] (walk_from nothing_held) (codes "--all") ≡ []
unfolding clap_on_literals
turn_all = refl

turn_print : turn_fault check_level [] (walk_from nothing_held) (codes "--print") ≡ []
unfolding clap_on_literals
turn_print = refl

turn_record : turn_fault check_level [] (walk_from nothing_held) (codes "--record") ≡ []
unfolding clap_on_literals
turn_record = refl

-- what a walk behind `--all` comes to
module _ (x : ℕ) (a : List ℕ) (dash : (x == 45) ≡ false) where
  turn_behind_all : turn_fault check_level [] (behind_flag (codes "--all")) (x ∷ a) ≡ []
  unfolding clap_on_literals
  turn_behind_all = simp dash refl

  walked_behind_all : walked check_level.rules [] (behind_flag (codes "--all")) (x ∷ a) ≡ behind_file (codes "--all") (x ∷ a)
  unfolding clap_on_literals
  walked_behind_all = simp dash refl

  all_ends : walk_fault check_level [] (behind_file (codes "--all") (x ∷ a)) [] ≡ []
  unfolding clap_on_literals
  all_ends = refl

  all_rests : rest_of_level check_level (behind_file (codes "--all") (x ∷ a)).held ≡ []
  unfolding clap_on_literals
  all_rests = refl

  all_below : level_fault check_level [] nothing_held (codes "--all" ∷ (x ∷ a) ∷ []) false [] ≡ []
  all_below = below_passes (codes "--all") (x ∷ a) turn_all turn_behind_all walked_behind_all all_ends all_rests

  all_above : (below : Kinds) → below ≡ [] → level_fault (built parser).top (names_of (built parser)) nothing_held (codes "check" ∷ codes "--all" ∷ (x ∷ a) ∷ []) true below ≡ []
  unfolding clap_on_literals
  all_above below is = simp is refl

  pub check_all_passes : fault_of parser (codes "check" ∷ codes "--all" ∷ (x ∷ a) ∷ []) ≡ []
  unfolding clap_on_literals
  check_all_passes = all_above (level_fault check_level [] nothing_held (codes "--all" ∷ (x ∷ a) ∷ []) false []) all_below

-- behind `--print`
module _ (x : ℕ) (a : List ℕ) (dash : (x == 45) ≡ false) where
  turn_behind_print : turn_fault check_level [] (behind_flag (codes "--print")) (x ∷ a) ≡ []
  unfolding clap_on_literals
  turn_behind_print = simp dash refl

  walked_behind_print : walked check_level.rules [] (behind_flag (codes "--print")) (x ∷ a) ≡ behind_file (codes "--print") (x ∷ a)
  unfolding clap_on_literals
  walked_behind_print = simp dash refl

  print_ends : walk_fault check_level [] (behind_file (codes "--print") (x ∷ a)) [] ≡ []
  unfolding clap_on_literals
  print_ends = refl

  print_rests : rest_of_level check_level (behind_file (codes "--print") (x ∷ a)).held ≡ []
  unfolding clap_on_literals
  print_rests = refl

  print_below : level_fault check_level [] nothing_held (codes "--print" ∷ (x ∷ a) ∷ []) false [] ≡ []
  print_below = below_passes (codes "--print") (x ∷ a) turn_print turn_behind_print walked_behind_print print_ends print_rests

  print_above : (below : Kinds) → below ≡ [] → level_fault (built parser).top (names_of (built parser)) nothing_held (codes "check" ∷ codes "--print" ∷ (x ∷ a) ∷ []) true below ≡ []
  unfolding clap_on_literals
  print_above below is = simp is refl

  pub check_print_passes : fault_of parser (codes "check" ∷ codes "--print" ∷ (x ∷ a) ∷ []) ≡ []
  unfolding clap_on_literals
  check_print_passes = print_above (level_fault check_level [] nothing_held (codes "--print" ∷ (x ∷ a) ∷ []) false []) print_below

-- behind `--record`
module _ (x : ℕ) (a : List ℕ) (dash : (x == 45) ≡ false) where
  turn_behind_record : turn_fault check_level [] (behind_flag (codes "--record")) (x ∷ a) ≡ []
  unfolding clap_on_literals
  turn_behind_record = simp dash refl

  walked_behind_record : walked check_level.rules [] (behind_flag (codes "--record")) (x ∷ a) ≡ behind_file (codes "--record") (x ∷ a)
  unfolding clap_on_literals
  walked_behind_record = simp dash refl

  record_ends : walk_fault check_level [] (behind_file (codes "--record") (x ∷ a)) [] ≡ []
  unfolding clap_on_literals
  record_ends = refl

  record_rests : rest_of_level check_level (behind_file (codes "--record") (x ∷ a)).held ≡ []
  unfolding clap_on_literals
  record_rests = refl

  record_below : level_fault check_level [] nothing_held (codes "--record" ∷ (x ∷ a) ∷ []) false [] ≡ []
  record_below = below_passes (codes "--record") (x ∷ a) turn_record turn_behind_record walked_behind_record record_ends record_rests

  record_above : (below : Kinds) → below ≡ [] → level_fault (built parser).top (names_of (built parser)) nothing_held (codes "check" ∷ codes "--record" ∷ (x ∷ a) ∷ []) true below ≡ []
  unfolding clap_on_literals
  record_above below is = simp is refl

  pub check_record_passes : fault_of parser (codes "check" ∷ codes "--record" ∷ (x ∷ a) ∷ []) ≡ []
  unfolding clap_on_literals
  check_record_passes = record_above (level_fault check_level [] nothing_held (codes "--record" ∷ (x ∷ a) ∷ []) false []) record_below
