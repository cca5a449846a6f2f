-- A byte that has a kind is that kind's.
use Rattle.std.proofs.Common.{◌≡◌, ℕ, Bool, true, false, cond, nat_eq, Option, Some, None, refl, ap, ◌∙◌}
use Rattle.std.proofs.lemmas.Bool.{eqb-true}
use Rattle.fcgi_record.specs.Kinds.{kind_byte, kind_of}
use Rattle.fcgi_record.specs.declared.record_kind.RecordKind.{RecordKind}
use Rattle.fcgi_record.specs.declared.record_kind.RecordKind.TheVariants.{BeginRequest, AbortRequest, EndRequest, Params, Stdin, Stdout, Stderr, ExtraData, GetValues, GetValuesResult, UnknownType}

some_kind : (a b : RecordKind) → Some a ≡ Some b → a ≡ b
some_kind a b e = cc

row : (test : Bool) (b n : ℕ) (k kind : RecordKind) (others : Option RecordKind) → (test ≡ true → b ≡ n) → n ≡ kind_byte k
    → (others ≡ Some kind → b ≡ kind_byte kind) → cond test (Some k) others ≡ Some kind → b ≡ kind_byte kind
row true b n k kind others is byte later e = is refl ∙ byte ∙ ap kind_byte (some_kind k kind e)
row false b n k kind others is byte later e = later e

no_row : (b : ℕ) (kind : RecordKind) → None ≡ Some kind → b ≡ kind_byte kind
no_row b kind e = absurd cc

pub kind_alone : (kind : RecordKind) (b : ℕ) → kind_of b ≡ Some kind → b ≡ kind_byte kind
kind_alone kind b =
    row (nat_eq b 1) b 1 BeginRequest kind _ (eqb-true b 1) refl
    (row (nat_eq b 2) b 2 AbortRequest kind _ (eqb-true b 2) refl
    (row (nat_eq b 3) b 3 EndRequest kind _ (eqb-true b 3) refl
    (row (nat_eq b 4) b 4 Params kind _ (eqb-true b 4) refl
    (row (nat_eq b 5) b 5 Stdin kind _ (eqb-true b 5) refl
    (row (nat_eq b 6) b 6 Stdout kind _ (eqb-true b 6) refl
    (row (nat_eq b 7) b 7 Stderr kind _ (eqb-true b 7) refl
    (row (nat_eq b 8) b 8 ExtraData kind _ (eqb-true b 8) refl
    (row (nat_eq b 9) b 9 GetValues kind _ (eqb-true b 9) refl
    (row (nat_eq b 10) b 10 GetValuesResult kind _ (eqb-true b 10) refl
    (row (nat_eq b 11) b 11 UnknownType kind None (eqb-true b 11) refl (no_row b kind)))))))))))
