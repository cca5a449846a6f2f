-- The HTTP stream that the records of an application are. How the application's own bytes end says nothing: a stream is whole where the request was ended.
use Rattle.std.specs.Prelude.{ℕ, if◌then◌else◌, List, [], ◌++◌, Option, Some, None}
use Rattle.std.specs.List.{fold}
use Rattle.http_model.specs.declared.Ending.{Ending}
use Rattle.http_model.specs.declared.Ending.TheVariants.{Closed, Broke}
use Rattle.fcgi_lane.specs.Answer.Flow.{Flow, Place, fresh, next, output_in, is_over}
use Rattle.fcgi_lane.specs.Answer.Head.{Headed, head_at}

-- bytes and how they end
pub record HttpStream : Type 0 where
  pub bytes : List ℕ
  pub ending : Ending

-- an empty stream that breaks off, which a proxy answers by 502
abbrev pub no_stream : HttpStream
no_stream = record { bytes = []; ending = Broke }

-- closed where the request was ended, and else it breaks off
abbrev pub ending_at : Place → Ending
ending_at place = if is_over place then Closed else Broke

-- the head and the output behind it, which passes on as it comes; none where there is no head
abbrev pub stream_by : Option Headed → Place → HttpStream
stream_by None place = no_stream
stream_by (Some (head, rest)) place = record { bytes = head ++ rest; ending = ending_at place }

-- how far a translator has come with the head
pub data HeadAt : Type 0 where
  -- it isn't whole behind this output
  InHead : (text : List ℕ) → HeadAt
  -- it was made, and these bytes of it and of the output behind it are left to give
  Behind : (left : List ℕ) → HeadAt
  -- there is none
  NoHead : HeadAt

-- what a translator there still gives, where these bytes of the application follow
abbrev pub left_of : (limit : ℕ) → HeadAt → Flow → List ℕ → HttpStream
left_of limit (InHead text) flow bytes = stream_by (head_at limit (text ++ output_in flow bytes)) (fold next flow bytes).place
left_of limit (Behind left) flow bytes = record { bytes = left ++ output_in flow bytes; ending = ending_at (fold next flow bytes).place }
left_of limit NoHead flow bytes = no_stream

-- the HTTP stream of the bytes of an application, whose head has at most so many
abbrev pub cgi_of : (limit : ℕ) → List ℕ → HttpStream
cgi_of limit bytes = left_of limit (InHead []) fresh bytes
