-- The directions once the text that they lent is given back.
use Rattle.forward_core.specs.Request.Edits as requests
use Rattle.forward_core.specs.Answer.Lent as answers
use Rattle.forward_core.specs.Joined.Joined.{request_of, answer_of}
use Rattle.forward_core.specs.declared.joined.directions.Directions.{Directions}
use Rattle.forward_core.specs.contracts.joined.directions.Directions.{the_row}
use Rattle.std.specs.Borrow.{Lends, MutBor, Fml, Array, u8}
use mir.Syntax.{named}
use Rattle.std.proofs.Common.{◌≡◌, ℕ, List, [], ◌++◌, length, take, ap, ◌∙◌, append-nil, arith}
use Rattle.std.specs.List.{refill}
use Rattle.std.proofs.Math.Seq.{drop-length}
use Rattle.std.proofs.lemmas.List.{take_all}
use Rattle.circular_buffer.specs.Buffer.{buffer}
use Rattle.lane.specs.declared.direction.lane.Lane.{Lane}
use Rattle.forward_core.specs.declared.request.side.RequestSide.{RequestSide}
use Rattle.forward_core.specs.Request.Seen.{window_of}
use Rattle.forward_core.specs.declared.answer.side.AnswerSide.{AnswerSide}
use Rattle.forward_core.specs.Answer.Seen.{seen}

-- with this text in place of the one that waits for the client
abbrev pub with_to_client : Directions → List ℕ → Directions
with_to_client d text = record d { answer = answers.with_text d.answer text }

-- or for the server
abbrev pub with_to_server : Directions → List ℕ → Directions
with_to_server d text = record d { request = requests.with_text d.request text }

-- They have the text that the borrow leaves. `named 0` is the place of their configuration's lifetime in the signature.
abbrev pub LendsToClient : MutBor Directions → MutBor (List ℕ) → Fml
LendsToClient d r = Lends (the_row (record { mir = named 0; lft = [] })) (Array u8 0) d r (with_to_client d.now)

abbrev pub LendsToServer : MutBor Directions → MutBor (List ℕ) → Fml
LendsToServer d r = Lends (the_row (record { mir = named 0; lft = [] })) (Array u8 0) d r (with_to_server d.now)

-- a text that is left as it was is given back
refilled : (xs : List ℕ) → refill (length xs) xs xs ≡ xs
refilled xs =
    ap (λ (ys : List ℕ). take (length xs) (xs ++ ys)) (drop-length xs) ∙ ap (λ (ys : List ℕ). take (length xs) ys) (append-nil xs) ∙ take_all (length xs) xs (omega arith)

output_back : (lane : Lane) → buffer (refill (length lane.output.items) lane.output.items lane.output.items) lane.output.capacity ≡ lane.output
output_back lane = ap (λ (xs : List ℕ). buffer xs lane.output.capacity) (refilled lane.output.items)

server_text : (side : RequestSide) → requests.with_text side (window_of side) ≡ side
server_text side = λ i. record side { lane = record side.lane { output = output_back side.lane i } }

client_text : (side : AnswerSide) → answers.with_text side (seen side).window ≡ side
client_text side = λ i. record side { lane = record side.lane { lane = record side.lane.lane { output = output_back side.lane.lane i } } }

pub client_lent : (d : Directions) → with_to_client d (answer_of d).window ≡ d
client_lent d = λ i. record d { answer = client_text d.answer i }

pub server_lent : (d : Directions) → with_to_server d (request_of d).window ≡ d
server_lent d = λ i. record d { request = server_text d.request i }
