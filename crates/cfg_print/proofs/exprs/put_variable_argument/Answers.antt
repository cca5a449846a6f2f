use Rattle.std.proofs.Common.{◌≡◌, ◌++◌, ◌∷◌, [], ℕ, true, false, List, refl, rules}
use Rattle.std.specs.List.{list_all}
use Rattle.px_sample.specs.declared.scope.Scope.{Scope}
use Rattle.px_sample.specs.declared.scope.Scope.TheVariants as scopes
use Rattle.cfg_print.specs.Exprs.{is_bare_byte, argument_text, variable_text}
use Rattle.cfg_print.proofs.exprs.put_variable_argument.Goals as goal

-- a variable needs quotes where its name does: a scope needs none
bare : (scope : Scope) (name : List ℕ) → list_all is_bare_byte name ≡ true → argument_text (variable_text scope name) ≡ variable_text scope name
unfolding argument_text
bare scopes.Sess name is = rw is refl
bare scopes.Txn name is = rw is refl
bare scopes.Req name is = rw is refl
bare scopes.Res name is = rw is refl

quoted : (scope : Scope) (name : List ℕ) → list_all is_bare_byte name ≡ false → argument_text (variable_text scope name) ≡ 39 ∷ variable_text scope name ++ 39 ∷ []
unfolding argument_text
quoted scopes.Sess name is = rw is refl
quoted scopes.Txn name is = rw is refl
quoted scopes.Req name is = rw is refl
quoted scopes.Res name is = rw is refl

pub returns-then-are_bare_bytes : goal.returns-then-are_bare_bytes
returns-then-are_bare_bytes c = rw (bare c.args.scope c.args.name.now (search rules)) c.put_variable_text.ensures

pub returns : goal.returns
returns c = rw (quoted c.args.scope c.args.name.now (search rules)) c.put_quoted_variable.ensures
