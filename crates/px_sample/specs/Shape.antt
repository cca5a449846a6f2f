-- The lengths of stored values.
use Rattle.std.specs.Prelude.{◌≡◌, ℕ}
use Rattle.px_sample.specs.declared.form.Form.{Form}
use Rattle.px_sample.specs.declared.form.Form.TheVariants as forms

-- a truth value has one byte, a number eight
pub record IsShape (form : Form) (len : ℕ) : Type 0 where
  pub truth : form ≡ forms.Truth → len ≡ 1
  pub number : form ≡ forms.Number → len ≡ 8
