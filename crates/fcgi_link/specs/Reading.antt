-- The answer of an application, read over a link below.
use Rattle.std.specs.Prelude.{◌≡◌, ◌≤◌, List, [], ℕ, true, length, take, option_map, IfSome}
use Rattle.px_link.specs.Link.{Seen}
use Rattle.fcgi_lane.specs.Answer.Cgi.{no_stream}
use Rattle.fcgi_lane.specs.Answer.Stands.{Translating, Stands, IsDecided, left_in, ready_in, behind_given}

-- a translator that stands for some bytes, and has looked for the head
pub record IsReading (t : Translating) : Type 0 where
  pub given : List ℕ
  pub taken : List ℕ
  pub stands : Stands t given taken
  pub decided : IsDecided t

-- The same HTTP stream is left of a link and a translator as was before, and nothing else of the link below changed.
pub record IsAlike (a : Translating) (old : Seen) (b : Translating) (new : Seen) : Type 0 where
  pub stream : option_map (left_in b) new.to_come ≡ option_map (left_in a) old.to_come
  pub closed : new.closed ≡ old.closed
  pub plain : new.plain ≡ old.plain
  pub manner : new.manner ≡ old.manner

-- nothing is ready, and an answer over a plain link has come to its broken end
pub record BreaksOff (t : Translating) (below : Seen) : Type 0 where
  pub nothing : ready_in t.head ≡ []
  pub broke : below.plain ≡ true → IfSome below.to_come (λ bytes. left_in t bytes ≡ no_stream)

-- So many bytes were given: the next of the HTTP stream, which are the ready ones, and the rest of it is left.
pub record IsGivenOf (old new : Translating) (into : List ℕ) (count : ℕ) : Type 0 where
  pub within : count ≤ length into
  pub given : take count into ≡ take count (ready_in old.head)
  pub some : count ≤ length (ready_in old.head)
  pub left : (rest : List ℕ) → left_in old rest ≡ behind_given (take count (ready_in old.head)) (left_in new rest)
