-- Named requests, computed.
use Rattle.std.proofs.Common.{◌≡◌, ℕ, List, [], ◌∷◌, length, take, drop, refl, codes, Some}
use Rattle.std.specs.List.{flat_map}
use Rattle.http_model.specs.declared.Framing.TheVariants.{Absent}
use Rattle.fcgi_model.specs.Application.{below}
use Rattle.fcgi_model.specs.Head.{head_of, RequestHead}
use Rattle.fcgi_model.specs.Pairs.{pairs_of, field_pairs}
use Rattle.fcgi_model.specs.Records.{pair_text}

abbrev first : RequestHead
first = record {
  method = codes "GET";
  target = codes "/a";
  fields = (codes "host", codes "h") ∷ (codes "x-a", codes "1") ∷ (codes "connection", codes "close") ∷ [];
}

read : head_of (codes "GET /a HTTP/1.1\r\nhost: h\r\nx-a: 1\r\nconnection: close\r\n\r\n") ≡ Some first
read = refl

abbrev text : List ℕ
text = flat_map pair_text (pairs_of (below (codes "/srv")) first Absent)

counted : length text ≡ 179
counted = refl

begins : take 26 text ≡ 17 ∷ 7 ∷ codes "GATEWAY_INTERFACECGI/1.1"
begins = refl

ends : drop 170 text ≡ codes "HTTP_X_A1"
ends = refl

-- fields of one name are one pair, and some aren't handed on
one : field_pairs [] ((codes "x-a", codes "1") ∷ (codes "b", codes "2") ∷ (codes "x_a", codes "9") ∷ (codes "x-a", codes "3") ∷ (codes "proxy", codes "4") ∷ [])
    ≡ (codes "HTTP_X_A", codes "1, 3") ∷ (codes "HTTP_B", codes "2") ∷ []
one = refl
