-- How far a translator is from the first bytes that are ready.
use Rattle.std.specs.Prelude.{ℕ, ◌+◌, ◌-◌, ◌*◌, List, [], ◌∷◌, length, if◌then◌else◌}
use Rattle.fcgi_lane.specs.Answer.Flow.{patience, is_going}
use Rattle.fcgi_lane.specs.Answer.Cgi.{HeadAt, InHead, Behind, NoHead}
use Rattle.fcgi_lane.specs.Answer.Room.{head_room}
use Rattle.fcgi_lane.specs.Answer.Stands.{Translating}

-- in front of the end of a head so much more output fits, with so many bytes in front of each that add none; behind it those alone
abbrev pub work_at : (limit idle : ℕ) → HeadAt → ℕ
work_at limit idle (InHead text) = (head_room limit - length text) * (patience + 1) + (patience - idle + 1)
work_at limit idle (Behind []) = patience - idle + 1
work_at limit idle (Behind (b ∷ left)) = 0
work_at limit idle NoHead = 0

-- less with each byte, until some are ready or none can be
abbrev pub work_left : Translating → ℕ
work_left t = if is_going t.flow.place then work_at t.limit t.flow.idle t.head else 0
