-- What `clap` makes of `weave` and three words of which no dash stands in front: it finds no fault in them. Its walk is taken a word at a time, since all of it is
-- too much for one step of a proof.
use Rattle.std.proofs.Common.{◌≡◌, ◌==◌, ℕ, List, [], ◌∷◌, true, false, refl, ap, ◌∙◌, codes}
use Rattle.std.specs.Prelude.{None, find, unwrap_or}
use Rattle.clap.specs.Words.{Text, fault_of}
use Rattle.clap.specs.Faults.{check_fault, defaults_fault, level_fault, settle_fault, turn_fault, walk_fault}
use Rattle.clap.specs.Kinds.{Kinds, or_else}
use Rattle.clap.specs.Simple.{Shape, built, label_of, names_of}
use Rattle.clap.specs.Walk.{Held, Names, Walk, answers_to, finished, idle, nothing_held, pushed, settled, walk, walk_from, walked}
use Rattle.clap.proofs.OnLiterals.{clap_on_literals}
use Rattle.px_command.specs.Parser.{parser}

-- a command's own level
abbrev pub level_of : (command : Text) → Shape
level_of command = unwrap_or (find (λ (s : Shape). answers_to command (label_of s)) (built parser).subs) (built parser).top

abbrev weave_level : Shape
weave_level = level_of (codes "weave")

-- the walk on a level behind a word that goes to the argument of this name
abbrev pub walk_behind : Shape → Held → (position : ℕ) → (name word : Text) → Walk
walk_behind level held position name word = record {
  held = pushed name word (settled level.rules held);
  waiting = idle;
  position = position;
  is_trailing = false;
  stopped = None;
}

-- one word without fault, and the others
pub walks_on : (s : Shape) (names : Names) (w next : Walk) (word : Text) (rest : List Text) → turn_fault s names w word ≡ [] → walked s.rules names w word ≡ next
    → walk_fault s names next rest ≡ [] → walk_fault s names w (word ∷ rest) ≡ []
unfolding walk_fault
walks_on s names w next word rest turn is others =
    ap (λ (k : Kinds). or_else k (walk_fault s names (walked s.rules names w word) rest)) turn ∙ (ap (λ (v : Walk). walk_fault s names v rest) is ∙ others)

-- where a level's walk ends
abbrev pub rest_of_level : Shape → Held → Kinds
rest_of_level s held =
    or_else (settle_fault s.rules s.args_override_self held) (or_else (defaults_fault (settled s.rules held).rows s.rules) (check_fault s (finished s.rules held) false))

-- a level without fault, by its walk
pub level_passes : (s : Shape) (words : List Text) (held : Held) → walk_fault s [] (walk_from nothing_held) words ≡ [] → (walk s.rules [] nothing_held words).held ≡ held
    → rest_of_level s held ≡ [] → level_fault s [] nothing_held words false [] ≡ []
level_passes s words held walks ends rest =
    ap (λ (k : Kinds). or_else k (rest_of_level s (walk s.rules [] nothing_held words).held)) walks ∙ (ap (rest_of_level s) ends ∙ rest)

module _ (x y z : ℕ) (a b d : List ℕ) (first : (x == 45) ≡ false) (second : (y == 45) ≡ false) (third : (z == 45) ≡ false) where
  abbrev words : List Text
  words = (x ∷ a) ∷ (y ∷ b) ∷ (z ∷ d) ∷ []

  -- where the walk stands behind each word
  abbrev behind_one : Walk
  behind_one = walk_behind weave_level nothing_held 2 (codes "CFG") (x ∷ a)

  abbrev behind_two : Walk
  behind_two = walk_behind weave_level behind_one.held 3 (codes "REC") (y ∷ b)

  abbrev behind_three : Walk
  behind_three = walk_behind weave_level behind_two.held 4 (codes "K") (z ∷ d)

  walked_one : walked weave_level.rules [] (walk_from nothing_held) (x ∷ a) ≡ behind_one
  unfolding clap_on_literals
  walked_one = simp first refl

  walked_two : walked weave_level.rules [] behind_one (y ∷ b) ≡ behind_two
  unfolding clap_on_literals
  walked_two = simp second refl

  walked_three : walked weave_level.rules [] behind_two (z ∷ d) ≡ behind_three
  unfolding clap_on_literals
  walked_three = simp third refl

  turn_one : turn_fault weave_level [] (walk_from nothing_held) (x ∷ a) ≡ []
  unfolding clap_on_literals
  turn_one = simp first refl

  turn_two : turn_fault weave_level [] behind_one (y ∷ b) ≡ []
  unfolding clap_on_literals
  turn_two = simp second refl

  turn_three : turn_fault weave_level [] behind_two (z ∷ d) ≡ []
  unfolding clap_on_literals
  turn_three = simp third refl

  walk_ends : walk_fault weave_level [] behind_three [] ≡ []
  unfolding clap_on_literals
  walk_ends = refl

  walk_passes : walk_fault weave_level [] (walk_from nothing_held) words ≡ []
  walk_passes =
      walks_on weave_level [] (walk_from nothing_held) behind_one (x ∷ a) ((y ∷ b) ∷ (z ∷ d) ∷ []) turn_one walked_one
      (walks_on weave_level [] behind_one behind_two (y ∷ b) ((z ∷ d) ∷ []) turn_two walked_two (walks_on weave_level [] behind_two behind_three (z ∷ d) [] turn_three walked_three walk_ends))

  walk_is : walk weave_level.rules [] nothing_held words ≡ behind_three
  walk_is =
      ap (λ (w : Walk). walked weave_level.rules [] (walked weave_level.rules [] w (y ∷ b)) (z ∷ d)) walked_one
      ∙ (ap (λ (w : Walk). walked weave_level.rules [] w (z ∷ d)) walked_two ∙ walked_three)

  rest_passes : rest_of_level weave_level behind_three.held ≡ []
  unfolding clap_on_literals
  rest_passes = refl

  below_passes : level_fault weave_level [] nothing_held words false [] ≡ []
  below_passes = level_passes weave_level words behind_three.held walk_passes (ap (λ (w : Walk). w.held) walk_is) rest_passes

  above_passes : (below : Kinds) → below ≡ [] → level_fault (built parser).top (names_of (built parser)) nothing_held (codes "weave" ∷ words) true below ≡ []
  unfolding clap_on_literals
  above_passes below is = simp is refl

  pub weave_passes : fault_of parser (codes "weave" ∷ words) ≡ []
  unfolding clap_on_literals
  weave_passes = above_passes (level_fault weave_level [] nothing_held words false []) below_passes
