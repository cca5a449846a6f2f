-- What `clap` makes of `explain --blocks` and two words of which no dash stands in front: it finds no fault in them. As in `ThreeWords`, its walk is taken a word at a time.
use Rattle.std.proofs.Common.{◌≡◌, ◌==◌, ℕ, List, [], ◌∷◌, true, false, refl, ap, ◌∙◌, codes}
use Rattle.clap.specs.Words.{Text, fault_of}
use Rattle.clap.specs.Faults.{level_fault, turn_fault, walk_fault}
use Rattle.clap.specs.Kinds.{Kinds}
use Rattle.clap.specs.Simple.{Shape, built, names_of}
use Rattle.clap.specs.Walk.{Walk, nothing_held, walk, walk_from, walked}
use Rattle.clap.proofs.OnLiterals.{clap_on_literals}
use Rattle.px_command.specs.Parser.{parser}
use Rattle.px_command.proofs.ThreeWords.{level_of, walk_behind, walks_on, rest_of_level, level_passes}

abbrev explain_level : Shape
explain_level = level_of (codes "explain")

-- the walk behind the flag
abbrev behind_flag : Walk
behind_flag = walked explain_level.rules [] (walk_from nothing_held) (codes "--blocks")

turn_flag : turn_fault explain_level [] (walk_from nothing_held) (codes "--blocks") ≡ []
unfolding clap_on_literals
turn_flag = refl

module _ (x y : ℕ) (a b : List ℕ) (first : (x == 45) ≡ false) (second : (y == 45) ≡ false) where
  abbrev words : List Text
  words = codes "--blocks" ∷ (x ∷ a) ∷ (y ∷ b) ∷ []

  -- where the walk stands behind each word
  abbrev behind_one : Walk
  behind_one = walk_behind explain_level behind_flag.held 2 (codes "CFG") (x ∷ a)

  abbrev behind_two : Walk
  behind_two = walk_behind explain_level behind_one.held 3 (codes "REC") (y ∷ b)

  walked_one : walked explain_level.rules [] behind_flag (x ∷ a) ≡ behind_one
  unfolding clap_on_literals
  walked_one = simp first refl

  walked_two : walked explain_level.rules [] behind_one (y ∷ b) ≡ behind_two
  unfolding clap_on_literals
  walked_two = simp second refl

  turn_one : turn_fault explain_level [] behind_flag (x ∷ a) ≡ []
  unfolding clap_on_literals
  turn_one = simp first refl

  turn_two : turn_fault explain_level [] behind_one (y ∷ b) ≡ []
  unfolding clap_on_literals
  turn_two = simp second refl

  walk_ends : walk_fault explain_level [] behind_two [] ≡ []
  unfolding clap_on_literals
  walk_ends = refl

  walk_passes : walk_fault explain_level [] (walk_from nothing_held) words ≡ []
  walk_passes =
      walks_on explain_level [] (walk_from nothing_held) behind_flag (codes "--blocks") ((x ∷ a) ∷ (y ∷ b) ∷ []) turn_flag refl
      (walks_on explain_level [] behind_flag behind_one (x ∷ a) ((y ∷ b) ∷ []) turn_one walked_one (walks_on explain_level [] behind_one behind_two (y ∷ b) [] turn_two walked_two walk_ends))

  walk_is : walk explain_level.rules [] nothing_held words ≡ behind_two
  walk_is = ap (λ (w : Walk). walked explain_level.rules [] w (y ∷ b)) walked_one ∙ walked_two

  rest_passes : rest_of_level explain_level behind_two.held ≡ []
  unfolding clap_on_literals
  rest_passes = refl

  below_passes : level_fault explain_level [] nothing_held words false [] ≡ []
  below_passes = level_passes explain_level words behind_two.held walk_passes (ap (λ (w : Walk). w.held) walk_is) rest_passes

  above_passes : (below : Kinds) → below ≡ [] → level_fault (built parser).top (names_of (built parser)) nothing_held (codes "explain" ∷ words) true below ≡ []
  unfolding clap_on_literals
  above_passes below is = simp is refl

  pub explain_blocks_passes : fault_of parser (codes "explain" ∷ words) ≡ []
  unfolding clap_on_literals
  explain_blocks_passes = above_passes (level_fault explain_level [] nothing_held words false []) below_passes
