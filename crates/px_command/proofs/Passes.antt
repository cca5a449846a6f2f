-- What `clap` makes of the lists that the program takes: it finds no fault in them.
use Rattle.std.proofs.Common.{◌≡◌, ◌≢◌, ◌==◌, ℕ, List, [], ◌∷◌, true, false, refl, ap, ◌∙◌, subst, codes, inl, inr}
use Rattle.std.proofs.lemmas.Bool.{ne_eqb}
use Rattle.std.specs.Prelude.{Result, Ok, Err, IfErr}
use Rattle.clap.specs.Words.{App, FailsBy, HasKind, IsAmong, is_simple_and_free, Text, fault_of, kind_of}
use Rattle.clap.specs.declared.error.Error.{Error}
use Rattle.clap.specs.declared.error.kind.ErrorKind.{ErrorKind}
use Rattle.clap.specs.declared.error.kind.ErrorKind.TheVariants.{OutOfMemory}
use Rattle.clap.proofs.OnLiterals.{clap_on_literals}
use Rattle.px_command.specs.Command.{IsFileWord, IsCheck, IsCheckAll, IsCheckPrint, IsCheckRecord, IsReplay, IsExplain, IsExplainBlocks, IsWeave, IsServe, IsRun, IsDrill, AsksText, IsUsage}
use Rattle.px_command.specs.Parser.{IsRefused, parser}
use Rattle.px_command.specs.declared.options.RunOptions.{RunOptions}
use Rattle.px_command.proofs.Accepted.{number_word}
use Rattle.px_command.proofs.CheckFlags.{check_all_passes, check_print_passes, check_record_passes}
use Rattle.px_command.proofs.FlagWords.{explain_blocks_passes}
use Rattle.px_command.proofs.ThreeWords.{weave_passes}

-- ---- by computing, with words of which no dash stands in front

module _ (x : ℕ) (a : List ℕ) (dash : (x == 45) ≡ false) where
  check_passes : fault_of parser (codes "check" ∷ (x ∷ a) ∷ []) ≡ []
  unfolding clap_on_literals
  check_passes = simp dash refl

  module _ (y : ℕ) (b : List ℕ) (other : (y == 45) ≡ false) where
    replay_passes : fault_of parser (codes "replay" ∷ (x ∷ a) ∷ (y ∷ b) ∷ []) ≡ []
    unfolding clap_on_literals
    replay_passes = simp (dash, other) refl

    explain_passes : fault_of parser (codes "explain" ∷ (x ∷ a) ∷ (y ∷ b) ∷ []) ≡ []
    unfolding clap_on_literals
    explain_passes = simp (dash, other) refl

    serve_passes : fault_of parser (codes "serve" ∷ (x ∷ a) ∷ (y ∷ b) ∷ []) ≡ []
    unfolding clap_on_literals
    serve_passes = simp (dash, other) refl

    drill_passes : fault_of parser (codes "drill" ∷ (x ∷ a) ∷ (y ∷ b) ∷ []) ≡ []
    unfolding clap_on_literals
    drill_passes = simp (dash, other) refl

-- ---- by lists

not_dash : (x : ℕ) → x ≢ 45 → (x == 45) ≡ false
not_dash x differs = ne_eqb x 45 differs

one_passes : (a : Text) → IsFileWord a → (fault_of parser (codes "check" ∷ a ∷ []) ≡ []) × (fault_of parser (codes "check" ∷ codes "--all" ∷ a ∷ []) ≡ [])
    × (fault_of parser (codes "check" ∷ codes "--record" ∷ a ∷ []) ≡ []) × (fault_of parser (codes "check" ∷ codes "--print" ∷ a ∷ []) ≡ [])
one_passes [] file = absurd file
one_passes (x ∷ a) file = let p : (x == 45) ≡ false = not_dash x file in (check_passes x a p, check_all_passes x a p, check_record_passes x a p, check_print_passes x a p)

-- what comes of any command with two such words
by_words : (command : Text) → ((x : ℕ) (a : List ℕ) → (x == 45) ≡ false → (y : ℕ) (b : List ℕ) → (y == 45) ≡ false → fault_of parser (command ∷ (x ∷ a) ∷ (y ∷ b) ∷ []) ≡ [])
    → (a b : Text) → IsFileWord a → IsFileWord b → fault_of parser (command ∷ a ∷ b ∷ []) ≡ []
by_words command passes [] b file other = absurd file
by_words command passes (x ∷ a) [] file other = absurd other
by_words command passes (x ∷ a) (y ∷ b) file other = passes x a (not_dash x file) y b (not_dash y other)

blocks_pass : (a b : Text) → IsFileWord a → IsFileWord b → fault_of parser (codes "explain" ∷ codes "--blocks" ∷ a ∷ b ∷ []) ≡ []
blocks_pass [] b file other = absurd file
blocks_pass (x ∷ a) [] file other = absurd other
blocks_pass (x ∷ a) (y ∷ b) file other = explain_blocks_passes x y a b (not_dash x file) (not_dash y other)

three_pass : (a b d : Text) → IsFileWord a → IsFileWord b → IsFileWord d → fault_of parser (codes "weave" ∷ a ∷ b ∷ d ∷ []) ≡ []
three_pass [] b d file other third = absurd file
three_pass (x ∷ a) [] d file other third = absurd other
three_pass (x ∷ a) (y ∷ b) [] file other third = absurd third
three_pass (x ∷ a) (y ∷ b) (z ∷ d) file other third = weave_passes x y z a b d (not_dash x file) (not_dash y other) (not_dash z third)

passes_check : (ws : List Text) (cfg : Text) → IsCheck ws cfg → fault_of parser ws ≡ []
passes_check ws cfg is = ap (fault_of parser) is.0 ∙ (one_passes cfg is.1).0

passes_check_print : (ws : List Text) (cfg : Text) → IsCheckPrint ws cfg → fault_of parser ws ≡ []
passes_check_print ws cfg is = ap (fault_of parser) is.0 ∙ (one_passes cfg is.1).3

passes_check_record : (ws : List Text) (rec : Text) → IsCheckRecord ws rec → fault_of parser ws ≡ []
passes_check_record ws rec is = ap (fault_of parser) is.0 ∙ (one_passes rec is.1).2

passes_check_all : (ws : List Text) (cfg : Text) → IsCheckAll ws cfg → fault_of parser ws ≡ []
passes_check_all ws cfg is = ap (fault_of parser) is.0 ∙ (one_passes cfg is.1).1

passes_replay : (ws : List Text) (cfg rec : Text) → IsReplay ws cfg rec → fault_of parser ws ≡ []
passes_replay ws cfg rec is = ap (fault_of parser) is.0 ∙ by_words (codes "replay") replay_passes cfg rec is.1 is.2

passes_explain : (ws : List Text) (cfg rec : Text) → IsExplain ws cfg rec → fault_of parser ws ≡ []
passes_explain ws cfg rec is = ap (fault_of parser) is.0 ∙ by_words (codes "explain") explain_passes cfg rec is.1 is.2

passes_explain_blocks : (ws : List Text) (cfg rec : Text) → IsExplainBlocks ws cfg rec → fault_of parser ws ≡ []
passes_explain_blocks ws cfg rec is = ap (fault_of parser) is.0 ∙ blocks_pass cfg rec is.1 is.2

passes_weave : (ws : List Text) (cfg rec : Text) (cores : ℕ) → IsWeave ws cfg rec cores → fault_of parser ws ≡ []
passes_weave ws cfg rec cores is = ap (fault_of parser) is.1 ∙ three_pass cfg rec is.0 is.2 is.3 (number_word 1 256 is.0 cores is.4)

passes_serve : (ws : List Text) (cfg : Text) (connections : ℕ) → IsServe ws cfg connections → fault_of parser ws ≡ []
passes_serve ws cfg connections is =
    ap (fault_of parser) is.1 ∙ by_words (codes "serve") serve_passes cfg is.0 is.2 (number_word 1 1000000 is.0 connections is.3)

passes_drill : (ws : List Text) (seed exchanges : ℕ) → IsDrill ws seed exchanges → fault_of parser ws ≡ []
passes_drill ws seed exchanges is =
    ap (fault_of parser) is.2 ∙ by_words (codes "drill") drill_passes is.0 is.1 (number_word 0 2147483647 is.0 seed is.3) (number_word 0 4000 is.1 exchanges is.4)

-- ---- from a parse

refused_by : (a : App) (ws : List Text) (e : Error) → a ≡ parser → (is_simple_and_free a ≡ true → HasKind (fault_of a ws) e) → IsRefused ws e
refused_by a ws e is fails = subst (λ (b : App). is_simple_and_free b ≡ true → HasKind (fault_of b ws) e) is fails refl

pub all_refused : {T : Type 0} (a : App) (ws : List Text) (r : Result T Error) → a ≡ parser → (is_simple_and_free a ≡ true → FailsBy (fault_of a ws) r) → IfErr r (IsRefused ws)
all_refused a ws (Ok m) is kinds = tt
all_refused a ws (Err e) is kinds = refused_by a ws e is kinds

only_memory : (ws : List Text) (e : Error) → IsRefused ws e → (kind_of e ≡ OutOfMemory → ⊥) → fault_of parser ws ≡ [] → ⊥
only_memory ws e (inl memory) other passes = other memory
only_memory ws e (inr among) other passes = subst (λ (kinds : List ErrorKind). IsAmong (kind_of e) kinds) passes among

-- words that `clap` refused for another reason than memory, and that ask for no text and are not those of `run`
pub refused_usage : (ws : List Text) (e : Error) → IsRefused ws e → (kind_of e ≡ OutOfMemory → ⊥) → (AsksText ws → ⊥) → ((cfg : Text) (options : RunOptions) → IsRun ws cfg options → ⊥) → IsUsage ws
refused_usage ws e refused other text run =
    record {
      check = λ cfg is. only_memory ws e refused other (passes_check ws cfg is);
      check_all = λ cfg is. only_memory ws e refused other (passes_check_all ws cfg is);
      check_print = λ cfg is. only_memory ws e refused other (passes_check_print ws cfg is);
      check_record = λ rec is. only_memory ws e refused other (passes_check_record ws rec is);
      replay = λ cfg rec is. only_memory ws e refused other (passes_replay ws cfg rec is);
      explain = λ cfg rec is. only_memory ws e refused other (passes_explain ws cfg rec is);
      explain_blocks = λ cfg rec is. only_memory ws e refused other (passes_explain_blocks ws cfg rec is);
      weave = λ cfg rec cores is. only_memory ws e refused other (passes_weave ws cfg rec cores is);
      serve = λ cfg connections is. only_memory ws e refused other (passes_serve ws cfg connections is);
      drill = λ seed exchanges is. only_memory ws e refused other (passes_drill ws seed exchanges is);
      run = run;
      text = text;
    }
