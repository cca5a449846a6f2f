use Rattle.std.proofs.Common.{ℕ, List, [], ◌∷◌, ◌++◌, sym, ◌∙◌, subst}
use Rattle.h1_body.specs.declared.scan.SectionPlace.{SectionPlace}
use Rattle.h1_body.specs.declared.scan.SectionPlace.TheVariants as place
use Rattle.h1_body.specs.Scan.{IsFront}
use Rattle.h1_body.proofs.Scans.{token_is, begins_name, goes_on_name, ends_return}
use Rattle.h1_body.proofs.scan.next_place.Goals as goal

abbrev Goes : SectionPlace → SectionPlace → ℕ → Type 0
Goes next here byte = (bytes : List ℕ) → IsFront here bytes → IsFront next (bytes ++ byte ∷ [])

pub returns-then-is_token : goal.returns-then-is_token
returns-then-is_token c =
    subst (λ (here : SectionPlace). Goes place.Name here c.args.byte) (sym c.in-LineStart.is)
    (λ bytes. begins_name bytes c.args.byte (token_is c.args.byte (sym c.is_token.ensures ∙ c.if-is_token.true)))

pub returns-then-is_token-2 : goal.returns-then-is_token-2
returns-then-is_token-2 c =
    subst (λ (here : SectionPlace). Goes place.Name here c.args.byte) (sym c.in-Name.is)
    (λ bytes. goes_on_name bytes c.args.byte (token_is c.args.byte (sym c.is_token-in-Name.ensures ∙ c.if-is_token-2.true)))

pub returns-then-byte-eq10 : goal.returns-then-byte-eq10
returns-then-byte-eq10 c = subst (λ (here : SectionPlace). Goes place.LineStart here c.args.byte) (sym c.in-Return.is) (λ bytes. ends_return bytes c.args.byte c.if-byte-eq10.true)
