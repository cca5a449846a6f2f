-- The HTTP stream that is left of a link, read by read.
use Rattle.std.proofs.Common.{◌≡◌, ℕ, ◌≤◌, List, ◌++◌, length, take, drop, refl, sym, ap, subst, ◌∙◌, append_assoc}
use Rattle.std.specs.Prelude.{Option, Some, None, IfSome, option_map}
use Rattle.std.proofs.lemmas.List.{append_cancel_left, take-append-drop}
use Rattle.http_model.specs.declared.Ending.{Ending}
use Rattle.px_link.specs.Link.{Seen, Gave}
use Rattle.fcgi_lane.specs.Answer.Cgi.{HttpStream, cgi_of}
use Rattle.fcgi_lane.specs.Answer.Stands.{Translating, Stands, left_in, behind_given}
use Rattle.fcgi_link.specs.Reading.{IsAlike}

-- ---- streams

stream_same : (x y : HttpStream) → x.bytes ≡ y.bytes → x.ending ≡ y.ending → x ≡ y
stream_same x y p q =
    ap (λ (bytes : List ℕ). let s : HttpStream = record { bytes = bytes; ending = x.ending } in s) p
    ∙ ap (λ (ending : Ending). let s : HttpStream = record { bytes = y.bytes; ending = ending } in s) q

behind_cancel : (given : List ℕ) (x y : HttpStream) → behind_given given x ≡ behind_given given y → x ≡ y
behind_cancel given x y e = stream_same x y (append_cancel_left given x.bytes y.bytes (ap (λ (s : HttpStream). s.bytes) e)) (ap (λ (s : HttpStream). s.ending) e)

behind_both : (given front : List ℕ) (x : HttpStream) → behind_given (given ++ front) x ≡ behind_given given (behind_given front x)
behind_both given front x = stream_same (behind_given (given ++ front) x) (behind_given given (behind_given front x)) (append_assoc given front x.bytes) refl

-- ---- bytes that a translator was fed

left_alike : (a b : Translating) (given taken more rest : List ℕ) → b.limit ≡ a.limit → Stands a given taken → Stands b given (taken ++ more) → left_in a (more ++ rest) ≡ left_in b rest
left_alike a b given taken more rest limit s t =
    behind_cancel given (left_in a (more ++ rest)) (left_in b rest)
    (sym (s.all (more ++ rest))
    ∙ ap (cgi_of a.limit) (sym (append_assoc taken more rest))
    ∙ ap (λ (n : ℕ). cgi_of n ((taken ++ more) ++ rest)) (sym limit)
    ∙ t.all rest)

stream_fed : (a b : Translating) (old new : Option (List ℕ)) (given taken into : List ℕ) (n : ℕ) → b.limit ≡ a.limit → Stands a given taken → Stands b given (taken ++ take n into)
    → (old ≡ None → new ≡ None) → IfSome old (λ bytes. (n ≤ length bytes) × (take n into ≡ take n bytes) × (new ≡ Some (drop n bytes))) → option_map (left_in b) new ≡ option_map (left_in a) old
stream_fed a b None new given taken into n limit s t untold gives = ap (option_map (left_in b)) (untold refl)
stream_fed a b (Some bytes) new given taken into n limit s t untold gives =
    let fed : Stands b given (taken ++ take n bytes) = subst (λ (l : List ℕ). Stands b given (taken ++ l)) gives.1 t in
    ap (option_map (left_in b)) gives.2
    ∙ ap Some (sym (left_alike a b given taken (take n bytes) (drop n bytes) limit s fed) ∙ ap (left_in a) (take-append-drop n bytes))

fed_alike : (a b : Translating) (old new : Seen) (given taken into : List ℕ) (n : ℕ) → b.limit ≡ a.limit → Stands a given taken → Stands b given (taken ++ take n into) → Gave old new into n → IsAlike a old b new
fed_alike a b old new given taken into n limit s t g = record {
  stream = stream_fed a b old.to_come new.to_come given taken into n limit s t g.untold g.gives;
  closed = g.closed;
  plain = g.kind.plain;
  manner = g.kind.manner;
}

pub fed_alike_by : (a b : Translating) (old new : Seen) (given taken into fed : List ℕ) (n : ℕ) → b.limit ≡ a.limit → Stands a given taken → Stands b given (taken ++ fed) → fed ≡ take n into → Gave old new into n → IsAlike a old b new
fed_alike_by a b old new given taken into fed n limit s t is g = fed_alike a b old new given taken into n limit s (subst (λ (l : List ℕ). Stands b given (taken ++ l)) is t) g

-- ---- what was given

pub given_left : (a b : Translating) (given taken front rest : List ℕ) → b.limit ≡ a.limit → Stands a given taken → Stands b (given ++ front) taken → left_in a rest ≡ behind_given front (left_in b rest)
given_left a b given taken front rest limit s t =
    behind_cancel given (left_in a rest) (behind_given front (left_in b rest))
    (sym (s.all rest) ∙ ap (λ (n : ℕ). cgi_of n (taken ++ rest)) (sym limit) ∙ t.all rest ∙ behind_both given front (left_in b rest))
