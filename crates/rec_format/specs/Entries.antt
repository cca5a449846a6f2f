-- The lines of a record: a client's stream, a server's, and a turn.
use Rattle.std.specs.Prelude.{ℕ, Bool, true, false, ◌&&◌, nat_le, List, Option, Some, None, if◌then◌else◌, codes, option_map}
use Rattle.std.specs.Option.{option_and_then}
use Rattle.std.specs.Str.{bytes_eq}
use Rattle.http_model.specs.declared.Ending.{Ending}
use Rattle.http_model.specs.declared.Ending.TheVariants.{Closed, Broke}
use Rattle.px_link.specs.declared.turns.Turn.{Turn}
use Rattle.px_link.specs.declared.turns.Turn.TheVariants.{ClientGives, ClientTakes, ServerGives, ServerTakes}
use Rattle.session_model.specs.Stream.{Stream}
use Rattle.rec_format.specs.Pieces.{before, behind, number_of, counted}

-- a server of a record: its stream, and after how many bytes it stops taking, none where it takes all
pub record ServerEntry : Type 0 where
  pub stream : Stream
  pub takes : Option ℕ

-- how a stream ended, by its word
abbrev pub ending_of : List ℕ → Option Ending
ending_of word =
    if bytes_eq word (codes "closed") then Some Closed else (if bytes_eq word (codes "broke") then Some Broke else None)

-- how much a server takes, by its word
abbrev pub takes_of : List ℕ → Option (Option ℕ)
takes_of word = if bytes_eq word (codes "all") then Some None else option_map (λ n. Some n) (number_of word)

-- the words LEN and ending, and so many bytes and an LF in front of a text: the stream, and what stands behind it
abbrev pub stream_of : List ℕ → List ℕ → List ℕ → Option (Stream × List ℕ)
stream_of number word text =
    option_and_then (λ n. option_and_then (λ ending. option_map (λ parts. (record { bytes = parts.0; ending = ending }, parts.1)) (counted n text)) (ending_of word)) (number_of number)

-- the line `client LEN closed` or `client LEN broke`, and the stream behind it
abbrev pub client_entry : List ℕ → Option (List ℕ) → Option (Stream × List ℕ)
client_entry line after =
    option_and_then (λ text. option_and_then (λ words. option_and_then (λ word. if bytes_eq (before 32 line) (codes "client") then stream_of (before 32 words) word text else None) (behind 32 words)) (behind 32 line)) after

-- the words LEN, ending and TAKES, and the stream behind them
abbrev pub served : List ℕ → List ℕ → Option (Option ServerEntry × List ℕ)
served words text =
    option_and_then (λ more. option_and_then (λ last. option_and_then (λ takes. option_map (λ parts. (Some (record { stream = parts.0; takes = takes }), parts.1)) (stream_of (before 32 words) (before 32 more) text)) (takes_of last)) (behind 32 more)) (behind 32 words)

-- the line `server refused`, or `server LEN closed TAKES` and the stream behind it; the line begins with `server`
abbrev pub server_entry : List ℕ → Option (List ℕ) → Option (Option ServerEntry × List ℕ)
server_entry line after =
    option_and_then (λ text. option_and_then (λ words. if bytes_eq words (codes "refused") then Some (None, text) else served words text) (behind 32 line)) after

-- who moves, by a letter
abbrev pub turn_by : List ℕ → ℕ → Option Turn
turn_by letter n =
    if bytes_eq letter (codes "c") then Some (ClientGives n) else (if bytes_eq letter (codes "C") then Some (ClientTakes n) else (if bytes_eq letter (codes "s") then Some (ServerGives n) else (if bytes_eq letter (codes "S") then Some (ServerTakes n) else None)))

-- a number from 1 to this one
abbrev pub up_to : ℕ → List ℕ → Option ℕ
up_to most word = option_and_then (λ n. if nat_le 1 n && nat_le n most then Some n else None) (number_of word)

-- a letter and a number: who moves, and at most how many bytes
abbrev pub moved : List ℕ → Option Turn
moved words = option_and_then (λ number. option_and_then (turn_by (before 32 words)) (up_to 262144 number)) (behind 32 words)

-- a turn of some connection, by its words; in the first format there is one connection, and it is not named
abbrev pub turn_words : Bool → ℕ → List ℕ → Option (ℕ × Turn)
turn_words false connections line = option_map (λ turn. (1, turn)) (moved line)
turn_words true connections line =
    option_and_then (λ words. option_and_then (λ owner. option_map (λ turn. (owner, turn)) (moved words)) (up_to connections (before 32 line))) (behind 32 line)

-- the line of a turn, and what stands behind it
abbrev pub turn_entry : Bool → ℕ → List ℕ → Option (List ℕ) → Option ((ℕ × Turn) × List ℕ)
turn_entry names connections line after =
    option_and_then (λ text. option_map (λ turn. (turn, text)) (turn_words names connections line)) after
