-- No header that frames matches.
use Rattle.std.proofs.Common.{◌≡◌, List, [], ◌∷◌, Bool, true, false, ◌&&◌, cond, not, filter, refl, ap, sym, ◌∙◌}
use Rattle.http_model.specs.Block.{Block, RequestLine, ResponseLine, Header, EndHeaders, Data, Trailer, EndTrailers}
use Rattle.http_model.specs.Fields.{is_named_among}
use Rattle.http_model.specs.Finish.{framing_names}
use Rattle.header_ops.specs.declared.matching.NameMatch.{NameMatch}
use Rattle.header_ops.specs.Headers.{is_framing_header}
use Rattle.header_ops.specs.Matching.{is_match, is_header_matching, without_matching}

never_both : (a b : Bool) → (a && not b) ≡ true → b ≡ false
never_both true true h = cc
never_both true false h = refl
never_both false true h = cc
never_both false false h = refl

never : (which : NameMatch) (b : Block) → is_header_matching which b ≡ true → is_framing_header b ≡ false
never which (Header n v) h = never_both (is_match which n) (is_named_among framing_names (n, v)) h
never which (RequestLine x y z) h = refl
never which (ResponseLine x y z) h = refl
never which EndHeaders h = refl
never which (Data p) h = refl
never which (Trailer n v) h = refl
never which EndTrailers h = refl

pub framing_kept : (which : NameMatch) (bs : List Block) → filter is_framing_header (without_matching which bs) ≡ filter is_framing_header bs
framing_kept which [] = refl
framing_kept which (b ∷ bs) = by_test (is_header_matching which b) (without_matching which bs) (never which b) (framing_kept which bs)
  where
    by_test : (t : Bool) (rest : List Block) → (t ≡ true → is_framing_header b ≡ false) → filter is_framing_header rest ≡ filter is_framing_header bs
        → filter is_framing_header (cond (not t) (b ∷ rest) rest) ≡ cond (is_framing_header b) (b ∷ filter is_framing_header bs) (filter is_framing_header bs)
    by_test true rest other e = e ∙ sym (ap (λ (u : Bool). cond u (b ∷ filter is_framing_header bs) (filter is_framing_header bs)) (other refl))
    by_test false rest other e = ap (λ (l : List Block). cond (is_framing_header b) (b ∷ l) l) e
