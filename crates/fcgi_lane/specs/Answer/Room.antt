-- How many bytes a translator takes without more memory than it has.
use Rattle.std.specs.Prelude.{ℕ, ◌+◌, ◌-◌, List, length}
use Rattle.fcgi_lane.specs.Answer.Cgi.{HeadAt, InHead, Behind, NoHead}
use Rattle.fcgi_lane.specs.Answer.Stands.{Translating}

-- a text, and the most bytes that it may have
pub record Fixed : Type 0 where
  pub cap : ℕ
  pub bytes : List ℕ

-- how many bytes an HTTP head may have beside those of the application's
abbrev pub most_more : ℕ
most_more = 1024

-- the output in front of the end of a head: one byte more than a head may have
abbrev pub head_room : (limit : ℕ) → ℕ
head_room limit = limit + 1

-- what is left to give: an HTTP head, with the output that came together with the application's
abbrev pub left_room : (limit : ℕ) → ℕ
left_room limit = limit + 1 + most_more

-- how many bytes may come before others are given
abbrev pub room_at : (limit : ℕ) → HeadAt → ℕ
room_at limit (InHead text) = head_room limit - length text
room_at limit (Behind left) = left_room limit - length left
room_at limit NoHead = 0

abbrev pub room_in : Translating → ℕ
room_in t = room_at t.limit t.head
