-- The public laws of where the bytes of a body lead, and what they tell.
use Rattle.std.proofs.Common.{ℕ, List, ◌++◌, ◌≡◌, ◌≤◌, true, ◌<◌, [], length}
use Rattle.std.specs.Prelude.{Option}
use Rattle.std.specs.List.{fold}
use Rattle.http_model.specs.declared.Limits.{Limits}
use Rattle.http_model.specs.declared.Ending.{Ending}
use Rattle.http_model.specs.Head.{Field}
use Rattle.http_model.specs.Reading.{Whole}
use Rattle.h1_body.specs.BodyOf.{Reads, IsBodyOf, IsChunkedBody, StateTells, BodyRead, Tells, ClosedIsWhole}
use Rattle.h1_body.specs.Body.{BodyAt, Goes, Left, Over, UntilClose, InSection, step}
use Rattle.h1_body.specs.declared.line.LinePlace.{LinePlace}
use Rattle.h1_body.specs.Line.{goes_on}
use Rattle.http_model.specs.declared.Framing.{Framing}
use Rattle.h1_body.specs.declared.reader.BodyReader.{BodyReader}
use Rattle.h1_body.specs.Stands.{state_of, HasRead, start_of, ends_of}
use Rattle.h1_body.specs.Section.{section_limit}
use Rattle.h1_body.specs.Live.{Live}
use Rattle.http_model.specs.declared.Framing.TheVariants as framing
use Rattle.h1_body.proofs.Chunks as chunks
use Rattle.h1_body.proofs.Runs as runs
use Rattle.h1_body.proofs.Lines as lines
use Rattle.h1_body.proofs.Told as telling
use Rattle.h1_body.proofs.Live as live

-- Bytes that begin with a whole chunked body are read as that body, whatever ends the stream.
pub chunks_whole : (limits : Limits) (bytes : List ℕ) (end : Option Ending) (body : List ℕ) (trailers : List Field) (rest : List ℕ)
    → IsChunkedBody limits bytes body trailers rest → IsBodyOf limits framing.Chunked bytes end (Reads (Whole body trailers rest))
chunks_whole = chunks.chunks_whole

-- Bytes that lead from one place to another, and bytes that lead on from there, lead in a row from the first place to the last.
pub goes_both : (from via to : BodyAt) (xs ys p q : List ℕ) → Goes from xs via p → Goes via ys to q → Goes from (xs ++ ys) to (p ++ q)
goes_both = runs.goes_both

-- A place in a line that goes on is within the limit of a line.
pub goes_short : (place : LinePlace) (n : ℕ) → goes_on place n ≡ true → n ≤ 255
goes_short = runs.goes_short

-- As many bytes as are left end the body.
pub left_ends : (left : ℕ) (bytes : List ℕ) → 0 < left → length bytes ≡ left → Goes (Left left) bytes (Over []) bytes
left_ends = runs.left_ends

-- A body that the close ends goes on with all bytes.
pub close_goes : (bytes : List ℕ) → Goes UntilClose bytes UntilClose bytes
close_goes = runs.close_goes

-- The bytes of a trailer section join those that stand in front of them.
pub section_goes : (rest front : List ℕ) → Goes (InSection front) rest (InSection (front ++ rest)) []
section_goes = lines.section_goes

-- The state of a reader tells what it has read.
pub told : (limits : Limits) (framing : Framing) (bytes found section : List ℕ) (reader : BodyReader) → HasRead limits framing bytes found section reader
    → StateTells limits framing bytes found section (state_of reader)
told = telling.told

-- What a reading tells is told at the place that the bytes lead to.
pub tells_at : (limits : Limits) (framing : Framing) (bytes found : List ℕ) (at : BodyAt) (end : Option Ending) (read : BodyRead) → Goes (start_of framing) bytes at found
    → IsBodyOf limits framing bytes end read → Tells (section_limit limits) at found end read
tells_at = telling.tells_at

-- Bytes, and the ending behind them, are at most one body.
pub one_reading : (limits : Limits) (framing : Framing) (bytes : List ℕ) (end : Option Ending) (a b : BodyRead) → IsBodyOf limits framing bytes end a → IsBodyOf limits framing bytes end b → a ≡ b
one_reading = telling.one_reading

-- A reader whose body the close ends makes it whole at the close.
pub closed_whole : (reader : BodyReader) → ends_of reader ≡ true → ClosedIsWhole reader
closed_whole = telling.closed_whole

-- From a place that bytes can lead to, bytes lead to such a place.
pub run_live : (bytes : List ℕ) (at : BodyAt) → Live at → Live (fold step at bytes)
run_live = live.run_live
