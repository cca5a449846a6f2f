use Rattle.std.proofs.Common.{rules, ◌≡◌, ◌≤◌, ℕ, List, ◌-◌, length, take, drop, false, codes, ap, ◌∙◌, arith}
use Rattle.std.specs.List.{prefix_len}
use Rattle.std.proofs.lemmas.List.{take_rest}
use Rattle.std.specs.Str.{bytes_eq}
use Rattle.fcgi_model.specs.Head.{is_word_byte}
use Rattle.fcgi_lane.proofs.RequestLemmas.Reading.{target_none}
use Rattle.fcgi_lane.proofs.request.head_reading.target_at.Goals as goal

pub returns-else-eq : goal.returns-else-eq
returns-else-eq c =
    let bytes : List ℕ = c.args.bytes.now in
    let some : 1 ≤ length bytes = omega arith in
    let is : c.split_at.result.1.now ≡ drop (prefix_len is_word_byte (drop 1 bytes)) (drop 1 bytes) =
    c.split_at.ensures.back
    ∙ ap (λ (n : ℕ). drop n (take (length bytes - 1) (drop 1 bytes))) c.len_before.ensures.count
    ∙ ap (λ (r : List ℕ). drop (prefix_len is_word_byte r) r) (take_rest bytes 1) in
    let off : bytes_eq c.split_at.result.1.now (codes " HTTP/1.1") ≡ false = search rules in
    target_none c.args.method.now bytes c.split_at.result.1.now some is off
